-- The law `example_is_reported`, from the lemmas that show it.
use Rattle.cy_model.proofs.WorkedExample as worked
use Rattle.cy_model.proofs.laws.example_is_reported.Goals as goal

pub returns : goal.returns
returns c = worked.example_is_reported
