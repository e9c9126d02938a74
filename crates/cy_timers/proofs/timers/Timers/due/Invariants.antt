-- What the loops of `Timers::due` keep.
use Rattle.std.proofs.Common.{◌≡◌, ◌++◌, take, drop}
use Rattle.cy_timers.proofs.Fronts.{IsFront, places_of}
use Rattle.cy_timers.proofs.timers.Timers.due.Given as goal

abbrev pub invariant-loop-i : goal.invariant-loop-i
invariant-loop-i l = IsFront l.now l.self-inside.queue.items l.i × (l.into ≡ places_of (take l.i l.self-inside.queue.items) ++ drop l.i l.initial.into)
