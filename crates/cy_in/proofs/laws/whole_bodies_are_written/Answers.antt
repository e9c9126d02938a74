-- By the rest of a body at each stage.
use Rattle.cy_in.proofs.WholeWritten.{whole_is_written}
use Rattle.cy_in.proofs.laws.whole_bodies_are_written.Goals as goal

pub returns : goal.returns
returns c = whole_is_written
