-- The law `exact_rule_is_found`, from the lemmas that show it.
use Rattle.cy_map.proofs.Precedence.{exact_found}
use Rattle.cy_map.proofs.laws.exact_rule_is_found.Goals as goal

pub returns : goal.returns
returns c = exact_found
