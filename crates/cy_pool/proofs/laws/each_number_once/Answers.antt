-- The law `each_number_once`, from the lemmas that show it.
use Rattle.cy_pool.proofs.Shelves.{each_number_once}
use Rattle.cy_pool.proofs.laws.each_number_once.Goals as goal

pub returns : goal.returns
returns c = each_number_once
