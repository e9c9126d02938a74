-- The law `outcome_is_the_first_refusal`, from the lemmas that show it.
use Rattle.cy_config.proofs.OutcomeLaws.{first_refusal}
use Rattle.cy_config.proofs.laws.outcome_is_the_first_refusal.Goals as goal

pub returns : goal.returns
returns c = first_refusal
