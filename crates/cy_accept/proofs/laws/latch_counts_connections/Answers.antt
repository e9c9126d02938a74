-- The law `latch_counts_connections`, from the lemmas that show it.
use Rattle.cy_accept.proofs.Counted.{connections_counted}
use Rattle.cy_accept.proofs.laws.latch_counts_connections.Goals as goal

pub returns : goal.returns
returns c = connections_counted
