-- The law `bytes_are_held_within`, from the lemmas that show it.
use Rattle.cy_bodies.proofs.Held as shown
use Rattle.cy_bodies.proofs.laws.bytes_are_held_within.Goals as goal

pub returns : goal.returns
returns c = shown.bytes_are_held_within
