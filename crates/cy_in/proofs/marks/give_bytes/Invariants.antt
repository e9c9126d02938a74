-- What is filled, and what is left to give, are what is given.
use Rattle.std.proofs.Common.{length}
use Rattle.cy_in.proofs.Giving.{Giving}
use Rattle.cy_in.proofs.marks.give_bytes.Given as goal

abbrev pub invariant-loop-filled : goal.invariant-loop-filled
invariant-loop-filled l =
    Giving l.max_trailer l.most l.fn.from l.fn.bytes l.fn.into l.mark l.rest l.filled l.into

abbrev pub decreases-loop-filled : goal.decreases-loop-filled
decreases-loop-filled l = length l.rest
