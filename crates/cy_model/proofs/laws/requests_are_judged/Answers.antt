-- The law `requests_are_judged`, from the lemmas that show it.
use Rattle.cy_model.proofs.Judged as shown
use Rattle.cy_model.proofs.laws.requests_are_judged.Goals as goal

pub returns : goal.returns
returns c = shown.requests_are_judged
