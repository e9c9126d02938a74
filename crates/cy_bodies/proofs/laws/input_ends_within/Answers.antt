-- The law `input_ends_within`, from the lemmas that show it.
use Rattle.cy_bodies.proofs.InputEnds as shown
use Rattle.cy_bodies.proofs.laws.input_ends_within.Goals as goal

pub returns : goal.returns
returns c = shown.input_ends_within
