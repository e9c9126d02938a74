-- The law `own_steps_decide`, from the lemmas that show it.
use Rattle.cy_world.proofs.Alike.{own_steps_decide}
use Rattle.cy_world.proofs.OwnReplies.{replies_are_own}
use Rattle.cy_world.proofs.laws.own_steps_decide.Goals as goal

pub returns-clause-replies : goal.returns-clause-replies
returns-clause-replies c = replies_are_own

pub returns-clause-told : goal.returns-clause-told
returns-clause-told c = own_steps_decide
