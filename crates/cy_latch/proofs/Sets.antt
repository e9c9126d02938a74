-- What setting one number does to the test of a number and to the count.
use Rattle.std.proofs.Common.{◌≡◌, ◌≢◌, ℕ, ◌+◌, ◌<◌, ◌≤◌, Bool, true, false, cond, List, length, get_or, set, ap, arith, inl, inr, ◌⊎◌}
use Rattle.std.proofs.lemmas.List.{get_or-set_same, get_or-set_other, get_or_past}
use Rattle.std.proofs.lemmas.List.Sums.{sum_by-set}
use Rattle.std.proofs.lemmas.Bool.{cases_lt}
use Rattle.cy_latch.specs.Numbers.{count_out, is_out}

pub count_drawn : (numbers : List Bool) (n : ℕ) → n < length numbers → is_out numbers n ≡ false → count_out (set numbers n true) ≡ count_out numbers + 1
count_drawn numbers n below idle =
    let f : Bool → ℕ = λ b. cond b 1 0 in
    let e = sum_by-set f numbers n true false below in
    let z : f (get_or numbers n false) ≡ 0 = ap f idle in
    omega (arith, e, z)

pub count_left : (numbers : List Bool) (n : ℕ) → n < length numbers → is_out numbers n ≡ true → count_out (set numbers n false) + 1 ≡ count_out numbers
count_left numbers n below out =
    let f : Bool → ℕ = λ b. cond b 1 0 in
    let e = sum_by-set f numbers n false false below in
    let z : f (get_or numbers n false) ≡ 1 = ap f out in
    omega (arith, e, z)

pub is_out-set_same : (numbers : List Bool) (n : ℕ) (b : Bool) → n < length numbers → is_out (set numbers n b) n ≡ b
is_out-set_same numbers n b below = get_or-set_same numbers n b false below

pub is_out-set_other : (numbers : List Bool) (n m : ℕ) (b : Bool) → m ≢ n → is_out (set numbers n b) m ≡ is_out numbers m
is_out-set_other numbers n m b other = get_or-set_other numbers n m b false other

-- a number that is out is below the limit
pub out_is_below : (numbers : List Bool) (n : ℕ) → is_out numbers n ≡ true → n < length numbers
out_is_below numbers n out = by_order (cases_lt n (length numbers))
  where
    by_order : (n < length numbers) ⊎ (length numbers ≤ n) → n < length numbers
    by_order (inl h) = h
    by_order (inr h) = let past = get_or_past numbers n false h in cc
