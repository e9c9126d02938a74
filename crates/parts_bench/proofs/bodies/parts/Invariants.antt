-- Nothing is taken, and the ring holds at most one byte more for each turn.
use Rattle.std.proofs.Common.{◌+◌, ◌≤◌, length}
use Rattle.cy_in.specs.declared.marks.TheConstants.{GREATEST_RAW}
use Rattle.parts_bench.proofs.bodies.parts.Given as goal

abbrev pub invariant-loop : goal.invariant-loop
invariant-loop l = l.input.taken.raw + length l.kit.input + l.count ≤ GREATEST_RAW + l.counter
