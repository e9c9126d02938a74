-- What the loops of `BodyOut::take` keep.
use Rattle.std.proofs.Common.{◌-◌, length}
use Rattle.cy_out.specs.Pushing.{IsPushed}
use Rattle.cy_out.proofs.body_out.BodyOut.take.Given as goal

abbrev pub invariant-loop-taken : goal.invariant-loop-taken
invariant-loop-taken l = IsPushed l.head l.at l.bytes l.fn.self l.fn.kit l.taken l.self l.kit

abbrev pub decreases-loop-taken : goal.decreases-loop-taken
decreases-loop-taken l = length l.bytes - l.taken
