-- The law `no_head_is_lost`, from the lemmas that show it.
use Rattle.cy_model.proofs.LastHeads as shown
use Rattle.cy_model.proofs.laws.no_head_is_lost.Goals as goal

pub returns : goal.returns
returns c = shown.no_head_is_lost
