-- The law `only_returns_end`, by what is proved of it elsewhere.
use Rattle.cy_states.proofs.Decisions.{only_returns_end}
use Rattle.cy_states.proofs.laws.only_returns_end.Goals as goal

pub returns : goal.returns
returns c = only_returns_end
