-- What the loops of `tell_of` keep.
use Rattle.std.proofs.Common.{◌≡◌, ◌<◌, ◌+◌, ◌%◌, ℕ, true, Some, slice_get}
use Rattle.cy_link.proofs.mem_ready.tell_of.Given as goal

-- the events so far
abbrev pub invariant-loop-i : goal.invariant-loop-i
invariant-loop-i l = (k : ℕ) → k < l.i → slice_get l.into k ≡ Some (record { place = (l.first + k) % l.places; read = true; write = true })
