-- The law `full_opens_none`, from the lemmas that show it.
use Rattle.cy_model.proofs.OwnEntries as shown
use Rattle.cy_model.proofs.laws.full_opens_none.Goals as goal

pub returns : goal.returns
returns c = shown.full_opens_none
