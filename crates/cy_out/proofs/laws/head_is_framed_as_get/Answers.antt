-- The law `head_is_framed_as_get`, from the lemmas that show it.
use Rattle.cy_out.proofs.HeadsAlike.{head_is_framed_as_get}
use Rattle.cy_out.proofs.laws.head_is_framed_as_get.Goals as goal

pub returns : goal.returns
returns c = head_is_framed_as_get
