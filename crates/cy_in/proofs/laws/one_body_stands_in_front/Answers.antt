-- By what is read of the body that is written.
use Rattle.cy_in.proofs.Continuing.{one_in_front}
use Rattle.cy_in.proofs.laws.one_body_stands_in_front.Goals as goal

pub returns : goal.returns
returns c = one_in_front
