-- The law `valid_steps_can_be_taken`, from the lemmas that show it.
use Rattle.cy_world.proofs.Served.{valid_steps_can_be_taken}
use Rattle.cy_world.proofs.laws.valid_steps_can_be_taken.Goals as goal

pub returns : goal.returns
returns c = valid_steps_can_be_taken
