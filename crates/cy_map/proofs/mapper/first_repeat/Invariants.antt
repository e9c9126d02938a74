-- What the loops of `first_repeat` keep.
use Rattle.std.proofs.Common.{◌≡◌, ◌<◌, ℕ, None}
use Rattle.cy_map.specs.Refusals.{earlier_rule}
use Rattle.cy_map.proofs.mapper.first_repeat.Given as goal

-- no pattern so far stands before
abbrev pub invariant-loop-place : goal.invariant-loop-place
invariant-loop-place l = (k : ℕ) → k < l.place → earlier_rule l.rules k ≡ None
