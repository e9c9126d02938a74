-- The law `due_is_due`, from the lemmas that show it.
use Rattle.cy_timers.proofs.Members.{due_is_due}
use Rattle.cy_timers.proofs.laws.due_is_due.Goals as goal

pub returns : goal.returns
returns c = due_is_due
