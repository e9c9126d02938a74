-- The law `admissions_open_one`, from the lemmas that show it.
use Rattle.cy_model.proofs.OwnEntries as shown
use Rattle.cy_model.proofs.laws.admissions_open_one.Goals as goal

pub returns : goal.returns
returns c = shown.admissions_open_one
