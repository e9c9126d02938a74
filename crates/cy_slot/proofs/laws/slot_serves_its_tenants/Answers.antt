-- The law `slot_serves_its_tenants`, from the lemmas that show it.
use Rattle.cy_slot.proofs.Serving.{slot_serves}
use Rattle.cy_slot.proofs.laws.slot_serves_its_tenants.Goals as goal

pub returns : goal.returns
returns c = slot_serves
