-- By what is read of the body that is written.
use Rattle.cy_in.proofs.Continuing.{bad_has_none}
use Rattle.cy_in.proofs.laws.bad_bodies_have_no_continuation.Goals as goal

pub returns : goal.returns
returns c = bad_has_none
