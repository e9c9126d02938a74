-- What the loops of `all_set` keep.
use Rattle.std.proofs.Common.{◌≡◌, length}
use Rattle.parts_bench.specs.declared.timers.TheConstants.{PLACES}
use Rattle.parts_bench.proofs.timers.all_set.Given as goal

abbrev pub invariant-loop-place : goal.invariant-loop-place
invariant-loop-place l = length l.timers ≡ PLACES
