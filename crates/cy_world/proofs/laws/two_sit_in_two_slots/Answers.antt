-- The law `two_sit_in_two_slots`, from the lemmas that show it.
use Rattle.cy_world.proofs.Apart.{two_sit_in_two_slots}
use Rattle.cy_world.proofs.laws.two_sit_in_two_slots.Goals as goal

pub returns : goal.returns
returns c = two_sit_in_two_slots
