-- Lists of rules that grow at their end.
use Rattle.std.proofs.Common.{◌≡◌, ℕ, zero, suc, ◌+◌, ◌<◌, ◌≤◌, inl, inr, Bool, true, false, cond, ◌&&◌, ◌||◌, not, ltb, List, [], ◌∷◌, ◌++◌, length, take, Option, Some, None, refl, sym, ap, subst, ◌∙◌, arith, length-append}
use Rattle.std.specs.Prelude.{bytes_eq, slice_get}
use Rattle.std.specs.Option.{option_and_then}
use Rattle.std.specs.List.{list_any, position, position_or_len}
use Rattle.std.proofs.lemmas.Bool.{ltb-true, ltb-false, lt-ltb, cases_Bool, and_parts}
use Rattle.std.proofs.lemmas.List.{take-append-le}
use Rattle.std.proofs.lemmas.List.Folds.{list_any-append}
use Rattle.std.proofs.Math.Seq.{take-append_seam}
use Rattle.cy_map.specs.declared.rule.Rule.{Rule}
use Rattle.cy_map.specs.Patterns.{is_pattern}
use Rattle.cy_map.specs.Refusals.{earlier_rule, IsTaken}
use Rattle.cy_map.proofs.Repeats.{earlier_past}
use Rattle.cy_settings.specs.Rules.{has_pattern, is_next_rule, AreRules}

not_true : (t : Bool) → not t ≡ true → t ≡ false
not_true true h = absurd cc
not_true false h = refl

-- ---- none of a list

or_parts : (s t : Bool) → (s || t) ≡ false → (s ≡ false) × (t ≡ false)
or_parts true t h = absurd cc
or_parts false t h = (refl, h)

whole_length : {A : Type 0} (p : A → Bool) (xs : List A) → list_any p xs ≡ false → position_or_len p xs ≡ length xs
whole_length p [] h = refl
whole_length p (x ∷ xs) h =
    let parts = or_parts (p x) (list_any p xs) h in
    let rest = whole_length p xs parts.1 in
    rw parts.0 (omega arith)

position_none : {A : Type 0} (p : A → Bool) (xs : List A) → list_any p xs ≡ false → position p xs ≡ None
position_none p xs h =
    let whole = whole_length p xs h in
    elim (cases_Bool (ltb (position_or_len p xs) (length xs))) [
      | inl less ↦ absurd (omega (arith, ltb-true _ _ less, whole))
      | inr least ↦ ap (λ (t : Bool). cond t (Some (position_or_len p xs)) None) least
    ]

any_within : {A : Type 0} (p : A → Bool) (xs : List A) → list_any p xs ≡ true → position_or_len p xs < length xs
any_within p [] h = absurd cc
any_within p (x ∷ xs) h =
    elim (p x) as (λ t. (t || list_any p xs) ≡ true → cond (not t) (1 + position_or_len p xs) 0 < suc (length xs)) [
      | true ↦ λ k. omega arith
      | false ↦ λ k. let rest = any_within p xs k in omega arith
    ] h

none_passes : {A : Type 0} (p : A → Bool) (xs : List A) → position p xs ≡ None → list_any p xs ≡ false
none_passes p xs h =
    elim (cases_Bool (list_any p xs)) [
      | inl some ↦
          let found : position p xs ≡ Some (position_or_len p xs) = ap (λ (t : Bool). cond t (Some (position_or_len p xs)) None) (lt-ltb _ _ (any_within p xs some)) in
          absurd cc
      | inr none ↦ none
    ]

-- ---- places of a longer list

slice_get-front : {A : Type 0} (xs ys : List A) (i : ℕ) → i < length xs → slice_get (xs ++ ys) i ≡ slice_get xs i
slice_get-front [] ys i h = absurd (omega arith)
slice_get-front (x ∷ xs) ys zero h = refl
slice_get-front (x ∷ xs) ys (suc i) h = slice_get-front xs ys i (omega arith)

slice_get-seam : {A : Type 0} (xs : List A) (x : A) (ys : List A) → slice_get (xs ++ x ∷ ys) (length xs) ≡ Some x
slice_get-seam [] x ys = refl
slice_get-seam (y ∷ xs) x ys = slice_get-seam xs x ys

-- what is found before a place of its pattern
abbrev found_before : List Rule → Option Rule → Option ℕ
found_before front here = option_and_then (λ rule. position (λ other. bytes_eq other.pattern rule.pattern) front) here

earlier_front : (rules more : List Rule) (place : ℕ) → place < length rules → earlier_rule (rules ++ more) place ≡ earlier_rule rules place
earlier_front rules more place within =
    ap (found_before (take place (rules ++ more))) (slice_get-front rules more place within)
    ∙ ap (λ (front : List Rule). found_before front (slice_get rules place)) (take-append-le place rules more (omega arith))

earlier_seam : (rules : List Rule) (rule : Rule) (more : List Rule) → earlier_rule (rules ++ rule ∷ more) (length rules) ≡ position (λ other. bytes_eq other.pattern rule.pattern) rules
earlier_seam rules rule more =
    ap (found_before (take (length rules) (rules ++ rule ∷ more))) (slice_get-seam rules rule more)
    ∙ ap (λ (front : List Rule). found_before front (Some rule)) (take-append_seam rules (rule ∷ more))

-- ---- rules

abbrev is_bad : Rule → Bool
is_bad rule = not (is_pattern rule.pattern)

one_more_taken : (rules : List Rule) (rule : Rule) → IsTaken rules → is_pattern rule.pattern ≡ true → has_pattern rules rule.pattern ≡ false → IsTaken (rules ++ rule ∷ [])
one_more_taken rules rule taken pattern fresh = record {
  good =
      let one_good : list_any is_bad (rule ∷ []) ≡ false = rw pattern refl in
      position_none is_bad (rules ++ rule ∷ []) (list_any-append is_bad rules (rule ∷ []) ∙ rw (none_passes is_bad rules taken.good) one_good);
  distinct = λ place.
      elim (cases_Bool (ltb place (length rules))) [
        | inl less ↦ earlier_front rules (rule ∷ []) place (ltb-true _ _ less) ∙ taken.distinct place
        | inr least ↦ elim (cases_Bool (ltb (length rules) place)) [
          | inl past ↦ earlier_past (rules ++ rule ∷ []) place (omega (arith, length-append rules (rule ∷ []), ltb-true _ _ past))
          | inr most ↦
              let at : length rules ≡ place = omega (arith, ltb-false _ _ least, ltb-false _ _ most) in
              subst (λ (n : ℕ). earlier_rule (rules ++ rule ∷ []) n ≡ None) at (earlier_seam rules rule [] ∙ position_none (λ other. bytes_eq other.pattern rule.pattern) rules fresh)
        ]
      ];
}

pub rules_kept : (rules : List Rule) (rule : Rule) → AreRules rules → is_next_rule rules rule ≡ true → AreRules (rules ++ rule ∷ [])
rules_kept rules rule are next =
    let parts = and_parts (is_pattern rule.pattern) _ next in
    let more = and_parts (not (has_pattern rules rule.pattern)) (ltb (length rules) 1024) parts.1 in
    record {
      taken = one_more_taken rules rule are.taken parts.0 (not_true (has_pattern rules rule.pattern) more.0);
      few = omega (arith, length-append rules (rule ∷ []), ltb-true _ _ more.1);
    }

not_false : (t : Bool) → not t ≡ false → t ≡ true
not_false true h = refl
not_false false h = absurd cc

pub next_again : (rules : List Rule) (rule : Rule) (more : List Rule) → AreRules (rules ++ rule ∷ more) → is_next_rule rules rule ≡ true
next_again rules rule more are =
    let none : (list_any is_bad rules || list_any is_bad (rule ∷ more)) ≡ false = sym (list_any-append is_bad rules (rule ∷ more)) ∙ none_passes is_bad (rules ++ rule ∷ more) are.taken.good in
    let here = or_parts (is_bad rule) (list_any is_bad more) (or_parts (list_any is_bad rules) (list_any is_bad (rule ∷ more)) none).1 in
    let pattern : is_pattern rule.pattern ≡ true = not_false (is_pattern rule.pattern) here.0 in
    let fresh : has_pattern rules rule.pattern ≡ false = none_passes (λ other. bytes_eq other.pattern rule.pattern) rules (sym (earlier_seam rules rule more) ∙ are.taken.distinct (length rules)) in
    let few : length rules < 1024 = omega (arith, length-append rules (rule ∷ more), are.few) in
    ap (λ (t : Bool). t && (not (has_pattern rules rule.pattern) && ltb (length rules) 1024)) pattern
    ∙ ap (λ (t : Bool). not t && ltb (length rules) 1024) fresh
    ∙ lt-ltb _ _ few
