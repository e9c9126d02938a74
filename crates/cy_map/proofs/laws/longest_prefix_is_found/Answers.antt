-- The law `longest_prefix_is_found`, from the lemmas that show it.
use Rattle.cy_map.proofs.Precedence.{longest_is_found}
use Rattle.cy_map.proofs.laws.longest_prefix_is_found.Goals as goal

pub returns : goal.returns
returns c = longest_is_found
