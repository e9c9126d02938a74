-- By what is read of the body that is written.
use Rattle.cy_in.proofs.Continuing.{partial_stays}
use Rattle.cy_in.proofs.laws.partial_content_stays.Goals as goal

pub returns : goal.returns
returns c = partial_stays
