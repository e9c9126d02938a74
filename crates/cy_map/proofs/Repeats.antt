-- Patterns that stand twice.
use Rattle.std.proofs.Common.{◌≡◌, ℕ, ◌<◌, ◌≤◌, inl, inr, List, length, take, Option, None, Some, refl, sym, ◌∙◌, ap, subst, arith, get_or, nat_lt}
use borrow.Author.Tests.{ltb-true, ltb-false}
use Rattle.std.specs.Prelude.{position, bytes_eq, slice_get}
use Rattle.std.proofs.lemmas.Bool.{cases_Bool}
use Rattle.std.proofs.lemmas.Option.{slice_get_past, slice_get-get_or}
use Rattle.cy_map.specs.declared.rule.Rule.{Rule}
use Rattle.cy_map.specs.Refusals.{earlier_rule, IsFirstRepeat}

pub earlier_past : (rules : List Rule) (place : ℕ) → length rules ≤ place → earlier_rule rules place ≡ None
earlier_past rules place past = rw (slice_get_past rules place past) refl

-- what is found of the pattern at a place, in the rules before it
pub earlier_is : (rules : List Rule) (place : ℕ) (rule : Rule) (pattern : List ℕ) (found : Option ℕ) → place < length rules → rule ≡ get_or rules place rule → pattern ≡ rule.pattern
    → found ≡ position (λ other. bytes_eq other.pattern pattern) (take place rules) → earlier_rule rules place ≡ found
earlier_is rules place rule pattern found within is of found_is =
    let at : slice_get rules place ≡ Some rule = slice_get-get_or rules place rule within ∙ ap (λ r. Some r) (sym is) in
    rw at (rw (← of) (sym found_is))

pub none_at_all : (rules : List Rule) (end : ℕ) → length rules ≤ end → ((place : ℕ) → place < end → earlier_rule rules place ≡ None) → (place : ℕ) → earlier_rule rules place ≡ None
none_at_all rules end whole before place =
    elim (cases_Bool (nat_lt place end)) [
      | inl inside ↦ before place (ltb-true _ _ inside)
      | inr past ↦ earlier_past rules place (omega (arith, ltb-false _ _ past))
    ]

-- there is one first repeat at most
not_before : (rules : List Rule) (i j k l : ℕ) → IsFirstRepeat rules i j → IsFirstRepeat rules k l → j < l → ⊥
not_before rules i j k l one other less =
    let none : earlier_rule rules j ≡ None = other.first j less in
    let some : earlier_rule rules j ≡ Some i = one.stands in
    absurd (cc)

pub one_repeat : (rules : List Rule) (i j k l : ℕ) → IsFirstRepeat rules i j → IsFirstRepeat rules k l → (i ≡ k) × (j ≡ l)
one_repeat rules i j k l one other =
    elim (cases_Bool (nat_lt j l)) [
      | inl less ↦ absurd (not_before rules i j k l one other (ltb-true _ _ less))
      | inr least ↦ elim (cases_Bool (nat_lt l j)) [
        | inl more ↦ absurd (not_before rules k l i j other one (ltb-true _ _ more))
        | inr most ↦
            let places : j ≡ l = omega (arith, ltb-false _ _ least, ltb-false _ _ most) in
            let some : earlier_rule rules l ≡ Some i = subst (λ n. earlier_rule rules n ≡ Some i) places one.stands in
            let again : earlier_rule rules l ≡ Some k = other.stands in
            let same : i ≡ k = cc in
            (same, places)
      ]
    ]
