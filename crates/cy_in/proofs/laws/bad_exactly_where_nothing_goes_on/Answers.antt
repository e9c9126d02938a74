-- By what ends a body from each stage on.
use Rattle.cy_in.proofs.GoingOn.{bad_exactly}
use Rattle.cy_in.proofs.laws.bad_exactly_where_nothing_goes_on.Goals as goal

pub returns : goal.returns
returns c = bad_exactly
