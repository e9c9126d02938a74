-- The lines before the rest are counted, and each turn takes one of them.
use Rattle.std.proofs.Common.{length}
use Rattle.cy_head.proofs.HeadScan.{Scan}
use Rattle.cy_head.proofs.due.front_of.Given as goal

abbrev pub invariant-loop-end : goal.invariant-loop-end
invariant-loop-end l = Scan l.bytes l.rest l.begun

abbrev pub decreases-loop-end : goal.decreases-loop-end
decreases-loop-end l = length l.rest
