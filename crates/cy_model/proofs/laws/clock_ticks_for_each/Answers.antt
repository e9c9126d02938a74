-- The law `clock_ticks_for_each`, from the lemmas that show it.
use Rattle.cy_model.proofs.OwnEntries as shown
use Rattle.cy_model.proofs.laws.clock_ticks_for_each.Goals as goal

pub returns : goal.returns
returns c = shown.clock_ticks_for_each
