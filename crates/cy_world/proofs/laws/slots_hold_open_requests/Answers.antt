-- The law `slots_hold_open_requests`, from the lemmas that show it.
use Rattle.cy_world.proofs.Served.{slots_hold_open_requests}
use Rattle.cy_world.proofs.laws.slots_hold_open_requests.Goals as goal

pub returns : goal.returns
returns c = slots_hold_open_requests
