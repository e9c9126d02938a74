-- Sums over the views of all passes, and how often a number stands in a list.
use Rattle.std.proofs.Common.{◌≡◌, ◌≢◌, ℕ, zero, suc, ◌+◌, ◌<◌, ◌≤◌, ◌==◌, cond, List, [], ◌∷◌, ◌++◌, set, refl, ap, sym, subst, arith, inl, inr, ◌⊎◌}
use mathlib.Core.Option.{some, some-ne-none}
use lib.ListN.{get_elem?}
use Rattle.std.proofs.lemmas.Bool.Decides.{nat_tests}
use Rattle.crossbeam_queue.proofs.Lists.{at_set, at_snoc}
use Rattle.cy_pool.specs.declared.rule.View.{View}
use Rattle.cy_pool.specs.Rule.{times, total, once_below}

same_view : (u v : View) → some u ≡ some v → u ≡ v
same_view u v e = cc

-- the total after a change of one view
pub total_set : (f : View → ℕ) (views : List View) (pass : ℕ) (v w : View) → get_elem? views pass ≡ some v → total f (set views pass w) + f v ≡ total f views + f w
total_set f [] zero v w e = absurd (some-ne-none v (sym e))
total_set f [] (suc k) v w e = absurd (some-ne-none v (sym e))
total_set f (u ∷ us) zero v w e = let same : f u ≡ f v = ap f (same_view u v e) in omega (arith, same)
total_set f (u ∷ us) (suc k) v w e = let rest = total_set f us k v w e in omega (arith, rest)

-- one view's part of the total
pub total_le : (f : View → ℕ) (views : List View) (pass : ℕ) (v : View) → get_elem? views pass ≡ some v → f v ≤ total f views
total_le f [] zero v e = absurd (some-ne-none v (sym e))
total_le f [] (suc k) v e = absurd (some-ne-none v (sym e))
total_le f (u ∷ us) zero v e = let same : f u ≡ f v = ap f (same_view u v e) in omega (arith, same)
total_le f (u ∷ us) (suc k) v e = let rest = total_le f us k v e in omega (arith, rest)

pub total_two : (f : View → ℕ) (views : List View) (a b : ℕ) (v w : View) → a ≢ b → get_elem? views a ≡ some v → get_elem? views b ≡ some w → f v + f w ≤ total f views
total_two f [] zero b v w apart e g = absurd (some-ne-none v (sym e))
total_two f [] (suc a) b v w apart e g = absurd (some-ne-none v (sym e))
total_two f (u ∷ us) zero zero v w apart e g = absurd (apart refl)
total_two f (u ∷ us) zero (suc b) v w apart e g =
    let same : f u ≡ f v = ap f (same_view u v e) in
    let rest = total_le f us b w g in
    omega (arith, same, rest)
total_two f (u ∷ us) (suc a) zero v w apart e g =
    let same : f u ≡ f w = ap f (same_view u w g) in
    let rest = total_le f us a v e in
    omega (arith, same, rest)
total_two f (u ∷ us) (suc a) (suc b) v w apart e g = let rest = total_two f us a b v w (λ same. apart (ap suc same)) e g in omega (arith, rest)

pub total_push : (f : View → ℕ) (views : List View) (v : View) → total f (views ++ v ∷ []) ≡ total f views + f v
total_push f [] v = omega arith
total_push f (u ∷ us) v = let rest = total_push f us v in omega (arith, rest)

-- one number more
pub times_push : (x : ℕ) (items : List ℕ) (y : ℕ) → times x (items ++ y ∷ []) ≡ times x items + cond (y == x) 1 0
times_push x [] y = omega arith
times_push x (z ∷ zs) y = let rest = times_push x zs y in omega (arith, rest)

pub below_none : (x : ℕ) → 0 ≡ once_below x 0
below_none x = grind (arith, nat_tests)

pub below_more : (x n : ℕ) → once_below x (n + 1) ≡ once_below x n + cond (n == x) 1 0
below_more x n = grind (arith, nat_tests)

pub below_from : (x n : ℕ) → 1 ≤ once_below x n → x < n
below_from x n h = grind (arith, nat_tests)

pub itself : (x : ℕ) → cond {A = ℕ} (x == x) 1 0 ≡ 1
itself x = grind (arith, nat_tests)

-- ---- what holds of every view

abbrev pub EveryView : (View → Type 0) → List View → Type 0
EveryView F views = (pass : ℕ) (v : View) → get_elem? views pass ≡ some v → F v

pub every_set : (F : View → Type 0) (views : List View) (pass : ℕ) (w : View) → F w → ((j : ℕ) (u : View) → j ≢ pass → get_elem? views j ≡ some u → F u) → EveryView F (set views pass w)
every_set F views pass w mine others j u e = by_place (at_set views pass j w u e)
  where
    by_place : ((j ≡ pass) × (w ≡ u)) ⊎ ((j ≢ pass) × (get_elem? views j ≡ some u)) → F u
    by_place (inl x) = subst F x.1 mine
    by_place (inr x) = others j u x.0 x.1

total_within : (f h g : View → ℕ) (views : List View) → EveryView (λ u. f u + h u ≤ g u) views → total f views + total h views ≤ total g views
total_within f h g [] all = omega arith
total_within f h g (u ∷ us) all =
    let here : f u + h u ≤ g u = all zero u refl in
    let rest = total_within f h g us (λ j w there. all (suc j) w there) in
    omega (arith, here, rest)

-- where f and h together are at most g in every view, so are their totals, with what one view has left
pub total_covers : (f h g : View → ℕ) (views : List View) (pass : ℕ) (v : View) → EveryView (λ u. f u + h u ≤ g u) views
    → get_elem? views pass ≡ some v → total f views + total h views + g v ≤ total g views + (f v + h v)
total_covers f h g [] pass v all e = absurd (some-ne-none v (sym e))
total_covers f h g (u ∷ us) zero v all e =
    let same_f : f u ≡ f v = ap f (same_view u v e) in
    let same_h : h u ≡ h v = ap h (same_view u v e) in
    let same_g : g u ≡ g v = ap g (same_view u v e) in
    let rest = total_within f h g us (λ j w there. all (suc j) w there) in
    omega (arith, same_f, same_h, same_g, rest)
total_covers f h g (u ∷ us) (suc k) v all e =
    let here : f u + h u ≤ g u = all zero u refl in
    let rest = total_covers f h g us k v (λ j w there. all (suc j) w there) e in
    omega (arith, here, rest)

pub every_push : (F : View → Type 0) (views : List View) (w : View) → EveryView F views → F w → EveryView F (views ++ w ∷ [])
every_push F views w all mine j u e = by_place (at_snoc views w u j e)
  where
    by_place : (get_elem? views j ≡ some u) ⊎ (w ≡ u) → F u
    by_place (inl x) = all j u x
    by_place (inr x) = subst F x mine
