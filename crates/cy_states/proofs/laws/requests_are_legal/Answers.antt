-- The law `requests_are_legal`, by what is proved of it elsewhere.
use Rattle.cy_states.proofs.Standing.{requests_are_legal}
use Rattle.cy_states.proofs.laws.requests_are_legal.Goals as goal

pub returns : goal.returns
returns c = requests_are_legal
