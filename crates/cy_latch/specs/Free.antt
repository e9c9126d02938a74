-- The free numbers, which a latch keeps in a list beside its numbers. Own.
use Rattle.std.specs.Prelude.{◌≡◌, ℕ, ◌+◌, ◌≤◌, ◌<◌, Bool, false, List, [], ◌∷◌, length}
use Rattle.cy_latch.specs.Numbers.{count_out, holds, is_out}

-- each of these may be drawn: it is below the limit and not out; and none stands twice
abbrev pub AreDrawable : List Bool → List ℕ → Type 0
AreDrawable numbers [] = Unit {0}
AreDrawable numbers (n ∷ ns) = (n < length numbers) × (is_out numbers n ≡ false) × (holds ns n ≡ false) × AreDrawable numbers ns

-- these are the numbers that aren't out, in a list that has room for all
pub record IsFree (numbers : List Bool) (free : List ℕ) (room : ℕ) : Type 0 where
  pub drawable : AreDrawable numbers free
  pub whole : count_out numbers + length free ≡ length numbers
  pub fits : length numbers ≤ room
