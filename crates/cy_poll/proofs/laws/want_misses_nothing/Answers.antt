-- The law `want_misses_nothing`, from the lemmas that show it.
use Rattle.cy_poll.proofs.Lost.{none_missed}
use Rattle.cy_poll.proofs.laws.want_misses_nothing.Goals as goal

pub returns : goal.returns
returns c = none_missed
