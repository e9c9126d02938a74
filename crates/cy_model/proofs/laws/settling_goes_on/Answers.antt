-- The law `settling_goes_on`, from the lemmas that show it.
use Rattle.cy_model.proofs.Settlings.{settled-step}
use Rattle.cy_model.proofs.laws.settling_goes_on.Goals as goal

pub returns : goal.returns
returns c = settled-step
