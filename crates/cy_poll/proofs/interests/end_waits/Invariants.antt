-- What the loops of `end_waits` keep.
use Rattle.std.proofs.Common.{take}
use Rattle.cy_poll.proofs.Ended.{EndedSoFar}
use Rattle.cy_poll.proofs.interests.end_waits.Given as goal

abbrev pub invariant-loop-place : goal.invariant-loop-place
invariant-loop-place l = EndedSoFar l.initial.notes l.initial.marks (take l.place-index l.places) l.notes l.marks
