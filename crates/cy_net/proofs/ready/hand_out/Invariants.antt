-- What the loops of `hand_out` keep.
use Rattle.std.proofs.Common.{◌≤◌, length}
use Rattle.cy_net.proofs.ready.hand_out.Given as goal

abbrev pub invariant-loop-event : goal.invariant-loop-event
invariant-loop-event l = l.count ≤ length l.into
