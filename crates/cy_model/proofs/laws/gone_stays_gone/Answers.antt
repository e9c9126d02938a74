-- The law `gone_stays_gone`, from the lemmas that show it.
use Rattle.cy_model.proofs.Gone as shown
use Rattle.cy_model.proofs.laws.gone_stays_gone.Goals as goal

pub returns : goal.returns
returns c = shown.gone_stays_gone
