-- The law `complete_decides`, by what is proved of it elsewhere.
use Rattle.cy_states.proofs.Decisions.{complete_decides}
use Rattle.cy_states.proofs.laws.complete_decides.Goals as goal

pub returns : goal.returns
returns c = complete_decides
