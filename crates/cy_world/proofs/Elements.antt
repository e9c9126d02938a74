-- One element of a list is put in place of another; what a book says once more is put down.
use Rattle.std.proofs.Common.{◌≡◌, ◌≢◌, ◌<◌, ◌≤◌, ℕ, zero, suc, Bool, true, false, List, [], ◌∷◌, set, Option, Some, refl, sym, ap, arith, ◌⊎◌, inl, inr, if◌then◌else◌}
use Rattle.std.specs.Prelude.{slice_get}
use Rattle.std.specs.BTreeMap.{is_at}
use Rattle.std.specs.Cmp.{nat_cmp_is}
use Rattle.std.specs.Ordering.{is_eq, nat_cmp}
use Rattle.std.specs.declared.cmp.Ordering.TheVariants.{Less, Equal, Greater}
use Rattle.std.proofs.lemmas.Bool.{cases_eq, cases_lt}

pub get-set_same : {X : Type 0} (xs : List X) (i : ℕ) (x y : X) → slice_get xs i ≡ Some x → slice_get (set xs i y) i ≡ Some y
get-set_same [] i x y there = cc
get-set_same (z ∷ zs) zero x y there = refl
get-set_same (z ∷ zs) (suc i) x y there = get-set_same zs i x y there

pub get-set_other : {X : Type 0} (xs : List X) (i j : ℕ) (y : X) → j ≢ i → slice_get (set xs i y) j ≡ slice_get xs j
get-set_other [] i j y other = refl
get-set_other (z ∷ zs) zero zero y other = absurd (other refl)
get-set_other (z ∷ zs) zero (suc j) y other = refl
get-set_other (z ∷ zs) (suc i) zero y other = refl
get-set_other (z ∷ zs) (suc i) (suc j) y other = get-set_other zs i j y (λ e. other (ap suc e))

-- ---- numbers that a book is asked for

at_self : (c : ℕ) → is_at (nat_cmp c) c ≡ true
at_self c = ap is_eq (sym (nat_cmp_is c c Equal refl))

less_of : (n m : ℕ) → n ≤ m → (n ≡ m) ⊎ (n ≡ m → ⊥) → n ≢ m → n < m
less_of n m within (inl e) other = absurd (other e)
less_of n m within (inr e) other = omega (arith, within, e)

at_other : (c d : ℕ) → d ≢ c → is_at (nat_cmp c) d ≡ false
at_other c d other = by_order (cases_lt c d)
  where
    by_order : (c < d) ⊎ (d ≤ c) → is_at (nat_cmp c) d ≡ false
    by_order (inl below) = ap is_eq (sym (nat_cmp_is c d Less below))
    by_order (inr above) = ap is_eq (sym (nat_cmp_is c d Greater (less_of d c above (cases_eq d c) other)))

pub put_down_same : {A : Type 0} (c : ℕ) (a before : Option A) → (if is_at (nat_cmp c) c then a else before) ≡ a
put_down_same c a before = ap (λ (v : Bool). if v then a else before) (at_self c)

pub put_down_other : {A : Type 0} (c d : ℕ) (a before : Option A) → d ≢ c → (if is_at (nat_cmp c) d then a else before) ≡ before
put_down_other c d a before other = ap (λ (v : Bool). if v then a else before) (at_other c d other)
