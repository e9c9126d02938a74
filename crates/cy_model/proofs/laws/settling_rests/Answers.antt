-- The law `settling_rests`, from the lemmas that show it.
use Rattle.cy_model.proofs.Settlings.{settled-rests}
use Rattle.cy_model.proofs.laws.settling_rests.Goals as goal

pub returns : goal.returns
returns c = settled-rests
