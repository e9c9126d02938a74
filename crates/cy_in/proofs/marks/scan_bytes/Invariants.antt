-- What is left leads to the same mark, and the mark has moved by what was passed.
use Rattle.std.proofs.Common.{length}
use Rattle.cy_in.proofs.Scanning.{Scanning}
use Rattle.cy_in.proofs.marks.scan_bytes.Given as goal

abbrev pub invariant-loop-rest : goal.invariant-loop-rest
invariant-loop-rest l = Scanning l.max_trailer l.fn.from l.fn.bytes l.mark l.rest

abbrev pub decreases-loop-rest : goal.decreases-loop-rest
decreases-loop-rest l = length l.rest
