-- The law `keys_are_in_any_order`, from the lemmas that show it.
use Rattle.cy_config.proofs.OutcomeLaws.{any_order}
use Rattle.cy_config.proofs.laws.keys_are_in_any_order.Goals as goal

pub returns : goal.returns
returns c = any_order
