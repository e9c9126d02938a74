-- Digits that are read one after another.
use Rattle.std.proofs.Common.{◌≡◌, ℕ, ◌+◌, ◌*◌, ◌^◌, ◌<◌, ◌≤◌, Bool, true, false, ◌&&◌, cond, List, [], ◌∷◌, length, get_or, drop, refl, sym, ap, ◌∙◌, arith, ltb, Option, Some, None}
use Rattle.std.specs.Char.{digit_value, is_digit}
use Rattle.std.specs.List.{list_all}
use Rattle.std.specs.Str.Parse.{digits_value_after}
use Rattle.std.proofs.Math.Nat.{le-mul_of_pos_right}
use Rattle.std.proofs.lemmas.List.{drop_more}
use Rattle.std.proofs.lemmas.Bool.{cond-false, le-ltb, lt-ltb, ltb-false}
use Rattle.cy_bytes.specs.Numbers.{fitting, number_after}

-- a number only grows by the digits behind it
pub digits_value_after-≤ : (radix n : ℕ) (text : List ℕ) → 1 ≤ radix → n ≤ digits_value_after radix n text
digits_value_after-≤ radix n [] some = omega arith
digits_value_after-≤ radix n (b ∷ text) some =
    let grown : n ≤ n * radix = le-mul_of_pos_right n (omega arith) in
    omega (arith, digits_value_after-≤ radix (n * radix + digit_value b) text some)

none_by_test : (t : Bool) (o : Option ℕ) → o ≡ None → cond t o None ≡ None
none_by_test true o e = e
none_by_test false o e = refl

-- a number that doesn't fit never fits again
pub number_after-large : (radix n : ℕ) (text : List ℕ) → 1 ≤ radix → 2 ^ 64 ≤ n → number_after radix n text ≡ None
number_after-large radix n text some large =
    none_by_test (list_all (λ b. is_digit b radix) text) (fitting (digits_value_after radix n text))
    (cond-false _ _ _ (le-ltb (digits_value_after radix n text) (2 ^ 64) (omega (arith, digits_value_after-≤ radix n text some))))

-- a digit is read
pub number_after-digit : (radix n b : ℕ) (text : List ℕ) → digit_value b < radix
    → number_after radix n (b ∷ text) ≡ number_after radix (n * radix + digit_value b) text
number_after-digit radix n b text digit =
    ap (λ (t : Bool). cond (t && list_all (λ c. is_digit c radix) text) (fitting (digits_value_after radix (n * radix + digit_value b) text)) None)
    (lt-ltb (digit_value b) radix digit)

-- what is left from a place on
pub number_after-at : (radix n : ℕ) (text : List ℕ) (i : ℕ) → i < length text
    → number_after radix n (drop i text) ≡ number_after radix n (get_or text i 0 ∷ drop (i + 1) text)
number_after-at radix n text i inside = ap (number_after radix n) (drop_more text i 0 inside)

none_by_fit : (n : ℕ) (t : Bool) → ltb n (2 ^ 64) ≡ t → None ≡ cond t (Some n) None → 2 ^ 64 ≤ n
none_by_fit n true fits e = cc
none_by_fit n false large e = ltb-false n (2 ^ 64) large

-- a number that doesn't fit is large
pub fitting-none : (n : ℕ) → None ≡ fitting n → 2 ^ 64 ≤ n
fitting-none n e = none_by_fit n _ refl e

-- what the loop keeps: what is left decides, and the number fits
pub record Read (radix : ℕ) (text : List ℕ) (n i : ℕ) : Type 0 where
  pub left : number_after radix 0 text ≡ number_after radix n (drop i text)
  pub fits : n < 2 ^ 64

-- a digit more makes it too large
pub read_large : (radix : ℕ) (text : List ℕ) (n i digit : ℕ) → Read radix text n i → i < length text → 1 ≤ radix
    → digit ≡ digit_value (get_or text i 0) → digit < radix → None ≡ fitting (n * radix + digit) → None ≡ number_after radix 0 text
read_large radix text n i digit read inside some is small e =
    let large : 2 ^ 64 ≤ n * radix + digit_value (get_or text i 0)
    = omega (arith, fitting-none _ e, is) in
    sym (read.left ∙ number_after-at radix n text i inside
    ∙ number_after-digit radix n (get_or text i 0) (drop (i + 1) text) (omega (arith, is, small))
    ∙ number_after-large radix _ (drop (i + 1) text) some large)
