-- After any calls each number is in the pool or in one slip.
use Rattle.std.proofs.Common.{◌≡◌, ℕ, zero, suc, ◌+◌, ◌<◌, ◌≤◌, ◌==◌, cond, List, [], ◌∷◌, ◌++◌, length, Option, None, Some, get_or, refl, ap, sym, ◌∙◌, add-one, arith, inl, inr, ◌⊎◌}
use Rattle.std.specs.List.{sum_by}
use Rattle.std.proofs.lemmas.Bool.{cases_lt}
use Rattle.std.proofs.lemmas.List.{get_or_past}
use Rattle.std.proofs.lemmas.List.Sums.{sum_by-set, sum_by-append}
use Rattle.cy_pool.specs.Rule.{times, has, once_below}
use Rattle.cy_pool.specs.Laws.{Shelf, shelf, below, after_take, after_give, shelf_after, EachNumberOnce}
use Rattle.cy_pool.specs.Laws.Turn.{took, gave, split, joined}
use Rattle.cy_pool.proofs.Totals.{times_push, below_none, below_more}

abbrev Counted : ℕ → ℕ → Shelf → Type 0
Counted slots x s = times x s.items + sum_by (has x) s.slips ≡ once_below x slots

all_below : (x n : ℕ) → times x (below n) ≡ once_below x n
all_below x zero = below_none x
all_below x (suc n) = times_push x (below n) n ∙ ap (λ t. t + cond (n == x) 1 0) (all_below x n) ∙ sym (below_more x n) ∙ ap (once_below x) (add-one n)

-- a seat whose slip isn't the one that is told of a seat that isn't there, is there
seat_is_there : (slips : List (Option ℕ)) (seat : ℕ) (slip none : Option ℕ) → get_or slips seat none ≡ slip → (slip ≡ none → ⊥) → seat < length slips
seat_is_there slips seat slip none is other = by_order (cases_lt seat (length slips))
  where
    by_order : (seat < length slips) ⊎ (length slips ≤ seat) → seat < length slips
    by_order (inl h) = h
    by_order (inr h) = absurd (other (sym is ∙ get_or_past slips seat none h))

none_some : (x : ℕ) → None ≡ Some x → ⊥
none_some x e = cc

some_none : (x : ℕ) → Some x ≡ None → ⊥
some_none x e = cc

take_once : (slots x : ℕ) (items : List ℕ) (slips : List (Option ℕ)) (seat : ℕ) (slip : Option ℕ) → get_or slips seat (Some 0) ≡ slip
    → Counted slots x (shelf items slips) → Counted slots x (after_take items slips seat slip)
take_once slots x [] slips seat slip is c = c
take_once slots x (y ∷ items) slips seat None is c =
    let s = sum_by-set (has x) slips seat (Some y) (Some 0) (seat_is_there slips seat None (Some 0) is (none_some 0)) in
    let none : has x (get_or slips seat (Some 0)) ≡ 0 = ap (has x) is in
    omega (arith, s, none, c)
take_once slots x (y ∷ items) slips seat (Some z) is c = c

give_once : (slots x : ℕ) (items : List ℕ) (slips : List (Option ℕ)) (seat : ℕ) (slip : Option ℕ) → get_or slips seat None ≡ slip
    → Counted slots x (shelf items slips) → Counted slots x (after_give items slips seat slip)
give_once slots x items slips seat None is c = c
give_once slots x items slips seat (Some y) is c =
    let s = sum_by-set (has x) slips seat None None (seat_is_there slips seat (Some y) None is (some_none y)) in
    let one : has x (get_or slips seat None) ≡ cond (y == x) 1 0 = ap (has x) is in
    omega (arith, s, one, c, times_push x items y)

pub each_number_once : EachNumberOnce
each_number_once slots [] x = (let a = all_below x slots in omega (arith, a))
each_number_once slots (took seat ∷ before) x =
    let s = shelf_after slots before in
    take_once slots x s.items s.slips seat (get_or s.slips seat (Some 0)) refl (each_number_once slots before x)
each_number_once slots (gave seat ∷ before) x =
    let s = shelf_after slots before in
    give_once slots x s.items s.slips seat (get_or s.slips seat None) refl (each_number_once slots before x)
each_number_once slots (split ∷ before) x =
    let s = shelf_after slots before in
    let p : sum_by (has x) (s.slips ++ None ∷ []) ≡ sum_by (has x) s.slips + 0 = sum_by-append (has x) s.slips (None ∷ []) in
    let c = each_number_once slots before x in
    omega (arith, p, c)
each_number_once slots (joined seat ∷ before) x = each_number_once slots before x
