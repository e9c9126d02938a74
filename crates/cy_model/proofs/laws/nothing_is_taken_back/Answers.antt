-- The law `nothing_is_taken_back`, from the lemmas that show it.
use Rattle.cy_model.proofs.Growth as shown
use Rattle.cy_model.proofs.laws.nothing_is_taken_back.Goals as goal

pub returns : goal.returns
returns c = shown.nothing_is_taken_back
