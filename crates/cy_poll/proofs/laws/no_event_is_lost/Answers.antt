-- The law `no_event_is_lost`, from the lemmas that show it.
use Rattle.cy_poll.proofs.Lost.{none_lost}
use Rattle.cy_poll.proofs.laws.no_event_is_lost.Goals as goal

pub returns : goal.returns
returns c = none_lost
