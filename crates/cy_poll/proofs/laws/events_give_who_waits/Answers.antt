-- The law `events_give_who_waits`, from the lemmas that show it.
use Rattle.cy_poll.proofs.Lost.{who_waits}
use Rattle.cy_poll.proofs.laws.events_give_who_waits.Goals as goal

pub returns : goal.returns
returns c = who_waits
