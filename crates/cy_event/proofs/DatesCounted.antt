-- Years and months that are counted off are the calendar's, so the text of a moment's date is httpdate's.
use Rattle.std.proofs.Common.{◌≡◌, ℕ, zero, suc, ◌+◌, ◌-◌, ◌*◌, ◌<◌, ◌≤◌, Bool, true, false, nat_lt, if◌then◌else◌, refl, arith}
use Rattle.std.proofs.lemmas.Bool.Decides.{nat_tests}
use Rattle.std.proofs.lemmas.Bool.{ltb-true}
use Rattle.cy_event.specs.Dates.{count_off}

-- One of the counted years or months, with days short of its end, that lies so many days after the first began;
-- `before` sums up the days before each.
pub record IsCounted (length_of before : ℕ → ℕ) (first days : ℕ) (found : ℕ × ℕ) : Type 0 where
  pub later : first ≤ found.0
  pub within : found.1 < length_of found.0
  pub total : before found.0 + found.1 ≡ before first + days

module _ (length_of before : ℕ → ℕ) (start least : ℕ) (no_shorter : (k : ℕ) → least ≤ length_of k) (sums : (k : ℕ) → start ≤ k → before (k + 1) ≡ before k + length_of k) where
  more : (n least : ℕ) → suc n * least ≡ n * least + least
  more n least = grind arith

  -- counting ends within one of them, if as many are counted as the least length allows
  pub counted : (n first days : ℕ) → start ≤ first → days < n * least + least → IsCounted length_of before first days (count_off length_of n first days)
  unfolding count_off
  counted zero first days after few = record { later = omega arith; within = omega (arith, no_shorter first); total = refl }
  counted (suc n) first days after few = by (counted n (first + 1) (days - length_of first)) (nat_lt days (length_of first)) refl
    where
      by : (start ≤ first + 1 → days - length_of first < n * least + least → IsCounted length_of before (first + 1) (days - length_of first) (count_off length_of n (first + 1) (days - length_of first))) → (t : Bool) → nat_lt days (length_of first) ≡ t → IsCounted length_of before first days (if t then (first, days) else count_off length_of n (first + 1) (days - length_of first))
      by on true e = record { later = omega arith; within = ltb-true _ _ e; total = refl }
      by on false e =
          let enough : length_of first ≤ days = grind (arith, nat_tests) in
          let rest = on (omega arith) (omega (arith, more n least, no_shorter first)) in
          record { later = omega (arith, rest.later); within = rest.within; total = omega (arith, rest.total, sums first after) }

  -- the sums grow
  grows : (k n : ℕ) → start ≤ k → before k ≤ before (k + n)
  grows k zero after = let same : k + 0 ≡ k = omega arith in rw same (omega arith)
  grows k (suc n) after =
      let one = sums (k + n) (omega arith) in
      let next : k + suc n ≡ k + n + 1 = omega arith in
      rw next (omega (arith, one, grows k n after))

  -- what is found lies before each year or month that begins later
  pub found_before : (first days top : ℕ) (found : ℕ × ℕ) → start ≤ top → IsCounted length_of before first days found → before first + days < before top → found.0 < top
  found_before first days top found after found_at early = by (nat_lt found.0 top) refl
    where
      by : (t : Bool) → nat_lt found.0 top ≡ t → found.0 < top
      by true e = ltb-true _ _ e
      by false e =
          let past : top ≤ found.0 = grind (arith, nat_tests) in
          let same : top + (found.0 - top) ≡ found.0 = omega arith in
          let up = grows top (found.0 - top) after in
          absurd (omega (arith, found_at.total, rw same at up))
