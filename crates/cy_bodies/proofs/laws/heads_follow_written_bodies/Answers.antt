-- The law `heads_follow_written_bodies`, from the lemmas that show it.
use Rattle.cy_bodies.proofs.Cuts as shown
use Rattle.cy_bodies.proofs.laws.heads_follow_written_bodies.Goals as goal

pub returns : goal.returns
returns c = shown.heads_follow_written_bodies
