-- What the loops of `timers_set_later` keep.
use Rattle.std.proofs.Common.{◌≡◌, length}
use Rattle.parts_bench.specs.declared.timers.TheConstants.{PLACES}
use Rattle.parts_bench.proofs.timers.timers_set_later.Given as goal

abbrev pub invariant-loop-turn : goal.invariant-loop-turn
invariant-loop-turn l = length l.timers ≡ PLACES
