-- The law `ends_are_told_last`, from the lemmas that show it.
use Rattle.cy_bodies.proofs.ToldEnds as shown
use Rattle.cy_bodies.proofs.laws.ends_are_told_last.Goals as goal

pub returns : goal.returns
returns c = shown.ends_are_told_last
