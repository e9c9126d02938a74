-- The law `own_entries_decide`, from the lemmas that show it.
use Rattle.cy_model.proofs.OwnEntries as shown
use Rattle.cy_model.proofs.laws.own_entries_decide.Goals as goal

pub returns : goal.returns
returns c = shown.own_entries_decide
