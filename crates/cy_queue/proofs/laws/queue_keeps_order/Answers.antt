-- The law `queue_keeps_order`, from the lemmas that show it.
use Rattle.cy_queue.proofs.Order.{keeps_order}
use Rattle.cy_queue.proofs.laws.queue_keeps_order.Goals as goal

pub returns : goal.returns
returns c = keeps_order
