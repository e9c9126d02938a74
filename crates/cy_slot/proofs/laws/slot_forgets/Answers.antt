-- The law `slot_forgets`, from the lemmas that show it.
use Rattle.cy_slot.proofs.Forgetting.{slot_forgets}
use Rattle.cy_slot.proofs.laws.slot_forgets.Goals as goal

pub returns : goal.returns
returns c = slot_forgets
