-- The law `requests_are_framed`, from the lemmas that show it.
use Rattle.cy_model.proofs.FramedHeads as shown
use Rattle.cy_model.proofs.laws.requests_are_framed.Goals as goal

pub returns : goal.returns
returns c = shown.requests_are_framed
