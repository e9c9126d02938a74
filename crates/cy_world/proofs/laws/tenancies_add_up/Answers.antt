-- The law `tenancies_add_up`, from the lemmas that show it.
use Rattle.cy_world.proofs.Served.{tenancies_add_up}
use Rattle.cy_world.proofs.laws.tenancies_add_up.Goals as goal

pub returns : goal.returns
returns c = tenancies_add_up
