-- The law `own_steps_add_own_entries`, from the lemmas that show it.
use Rattle.cy_model.proofs.OwnEntries as shown
use Rattle.cy_model.proofs.laws.own_steps_add_own_entries.Goals as goal

pub returns : goal.returns
returns c = shown.own_steps_add_own_entries
