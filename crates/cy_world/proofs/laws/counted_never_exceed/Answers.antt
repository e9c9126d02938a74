-- The law `counted_never_exceed`, from the lemmas that show it.
use Rattle.cy_world.proofs.Apart.{counted_never_exceed}
use Rattle.cy_world.proofs.laws.counted_never_exceed.Goals as goal

pub returns : goal.returns
returns c = counted_never_exceed
