-- By what ends a body from each stage on.
use Rattle.cy_in.proofs.GoingOn.{partial_goes_on}
use Rattle.cy_in.proofs.laws.partial_bodies_go_on.Goals as goal

pub returns : goal.returns
returns c = partial_goes_on
