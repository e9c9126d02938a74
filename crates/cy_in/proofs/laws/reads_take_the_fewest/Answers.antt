-- What is given stands in the fewest bytes.
use Rattle.cy_in.proofs.Gives.{takes_fewest}
use Rattle.cy_in.proofs.laws.reads_take_the_fewest.Goals as goal

pub returns : goal.returns
returns c n i input waits = takes_fewest n i input waits
