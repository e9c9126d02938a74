-- The law `no_end_waits`, from the lemmas that show it.
use Rattle.cy_model.proofs.Waiting as shown
use Rattle.cy_model.proofs.laws.no_end_waits.Goals as goal

pub returns : goal.returns
returns c = shown.no_end_waits
