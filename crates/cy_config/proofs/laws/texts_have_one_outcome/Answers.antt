-- The law `texts_have_one_outcome`, from the lemmas that show it.
use Rattle.cy_config.proofs.OutcomeLaws.{one_outcome}
use Rattle.cy_config.proofs.laws.texts_have_one_outcome.Goals as goal

pub returns : goal.returns
returns c = one_outcome
