-- By finding the byte, and by what other limits make of it.
use Rattle.cy_in.proofs.FirstBad.{first_decides}
use Rattle.cy_in.proofs.laws.the_first_bad_byte_decides.Goals as goal

pub returns : goal.returns
returns c = first_decides
