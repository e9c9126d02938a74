-- The law `refusals_are_told`, from the lemmas that show it.
use Rattle.cy_model.proofs.Ends as shown
use Rattle.cy_model.proofs.laws.refusals_are_told.Goals as goal

pub returns : goal.returns
returns c = shown.refusals_are_told
