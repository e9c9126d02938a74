-- Part by part, as it is written.
use Rattle.cy_in.proofs.BodyWritten.{written_is_whole}
use Rattle.cy_in.proofs.laws.written_bodies_are_whole.Goals as goal

pub returns : goal.returns
returns c max f bytes content more body = written_is_whole max f bytes content more body
