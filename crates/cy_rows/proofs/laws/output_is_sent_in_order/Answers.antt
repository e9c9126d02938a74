-- The law `output_is_sent_in_order`, from the lemmas that show it.
use Rattle.cy_rows.proofs.OutputWaits as shown
use Rattle.cy_rows.proofs.laws.output_is_sent_in_order.Goals as goal

pub returns : goal.returns
returns c = shown.output-is-sent-in-order
