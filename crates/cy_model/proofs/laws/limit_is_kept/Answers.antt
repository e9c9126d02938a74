-- The law `limit_is_kept`, from the lemmas that show it.
use Rattle.cy_model.proofs.Counts as shown
use Rattle.cy_model.proofs.laws.limit_is_kept.Goals as goal

pub returns : goal.returns
returns c = shown.limit_is_kept
