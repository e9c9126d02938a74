-- The law `others_wait_for_the_callback`, by what is proved of it elsewhere.
use Rattle.cy_states.proofs.Decisions.{others_wait}
use Rattle.cy_states.proofs.laws.others_wait_for_the_callback.Goals as goal

pub returns : goal.returns
returns c = others_wait
