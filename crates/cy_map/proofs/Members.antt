-- The elements of a list, and what `find` finds among them.
use Rattle.std.proofs.Common.{◌≡◌, Bool, true, false, ◌⊎◌, inl, inr, zero, suc, All, List, [], ◌∷◌, ◌++◌, length, None, Some, refl, sym, ◌∙◌, subst, arith}
use Rattle.std.specs.Prelude.{find, position, slice_get, option_and_then, nat_lt}
use Rattle.std.specs.List.{list_all, position_or_len}
use Rattle.std.proofs.lemmas.Bool.{cases_Bool, cond-true, cond-false, true≢false}
use borrow.Author.Tests.{ltb-false}
use Rattle.std.proofs.lemmas.List.Folds.{find_at}
use Rattle.std.proofs.lemmas.Option.{slice_get_past}

-- x is an element
abbrev pub IsMember : {X : Type 0} → X → List X → Type 0
IsMember x [] = ⊥
IsMember x (y ∷ ys) = (y ≡ x) ⊎ IsMember x ys

pub find_same : {X : Type 0} (p q : X → Bool) (xs : List X) → ((x : X) → IsMember x xs → p x ≡ q x) → find p xs ≡ find q xs
find_same p q [] same = refl
find_same p q (x ∷ xs) same =
    let here : p x ≡ q x = same x (inl refl) in
    let rest : find p xs ≡ find q xs = find_same p q xs (λ y m. same y (inr m)) in
    cc

pub find_none : {X : Type 0} (p : X → Bool) (xs : List X) → ((x : X) → IsMember x xs → p x ≡ false) → find p xs ≡ None
find_none p [] none = refl
find_none p (x ∷ xs) none =
    let here : p x ≡ false = none x (inl refl) in
    let rest : find p xs ≡ None = find_none p xs (λ y m. none y (inr m)) in
    rw here rest

-- where none is found, none passes
pub none_passes : {X : Type 0} (p : X → Bool) (xs : List X) → find p xs ≡ None → (x : X) → IsMember x xs → p x ≡ false
none_passes p [] none x m = absurd m
none_passes {X} p (y ∷ ys) none x m =
    elim (cases_Bool (p y)) [
      | inl passes ↦ let here : find p (y ∷ ys) ≡ Some y = cond-true (p y) (Some y) (find p ys) passes in absurd (cc)
      | inr fails ↦
          let rest : find p ys ≡ None = sym (cond-false (p y) (Some y) (find p ys) fails) ∙ none in
          elim m [ inl same ↦ subst (λ z. p z ≡ false) same fails | inr later ↦ none_passes p ys rest x later ]
    ]

-- what is found is an element that passes
pub found_passes : {X : Type 0} (p : X → Bool) (xs : List X) (x : X) → find p xs ≡ Some x → IsMember x xs × (p x ≡ true)
found_passes p [] x found = absurd (cc)
found_passes {X} p (y ∷ ys) x found =
    elim (cases_Bool (p y)) [
      | inl passes ↦
          let here : find p (y ∷ ys) ≡ Some y = cond-true (p y) (Some y) (find p ys) passes in
          let same : y ≡ x = cc in
          (inl same, subst (λ z. p z ≡ true) same passes)
      | inr fails ↦
          let rest : find p ys ≡ Some x = sym (cond-false (p y) (Some y) (find p ys) fails) ∙ found in
          let later = found_passes p ys x rest in
          (inr later.0, later.1)
    ]

pub all_pass : {X : Type 0} (p : X → Bool) (xs : List X) → ((x : X) → IsMember x xs → p x ≡ true) → list_all p xs ≡ true
all_pass p [] each = refl
all_pass p (x ∷ xs) each =
    let here : p x ≡ true = each x (inl refl) in
    let rest : list_all p xs ≡ true = all_pass p xs (λ y m. each y (inr m)) in
    rw here rest

pub each_passes : {X : Type 0} (p : X → Bool) (xs : List X) → list_all p xs ≡ true → (x : X) → IsMember x xs → p x ≡ true
each_passes p [] all x m = absurd m
each_passes {X} p (y ∷ ys) all x m =
    elim (cases_Bool (p y)) [
      | inl passes ↦
          let rest : list_all p ys ≡ true = rw passes at all in
          elim m [ inl same ↦ subst (λ z. p z ≡ true) same passes | inr later ↦ each_passes p ys rest x later ]
      | inr fails ↦ absurd (true≢false (sym all ∙ rw fails refl))
    ]

pub same_bool : (a b : Bool) → (a ≡ true → b ≡ true) → (b ≡ true → a ≡ true) → a ≡ b
same_bool true b there back = sym (there refl)
same_bool false true there back = back refl
same_bool false false there back = refl

-- the element at the first position is the first that passes
pub at_position : {X : Type 0} (p : X → Bool) (xs : List X) → option_and_then (slice_get xs) (position p xs) ≡ find p xs
at_position p xs =
    elim (cases_Bool (nat_lt (position_or_len p xs) (length xs))) [
      | inl within ↦ rw within (sym (find_at p xs))
      | inr past ↦ rw past (sym (slice_get_past xs (position_or_len p xs) (ltb-false _ _ past)) ∙ sym (find_at p xs))
    ]

all_of : {X : Type 0} (P : X → Type 0) (x : X) (xs : List X) → P x → All P xs → All P (x ∷ xs)
all_of P x xs first rest zero d within = first
all_of P x xs first rest (suc k) d within = rest k d (omega (arith, within))

-- what stands behind elements that fail is found
pub found_behind : {X : Type 0} (p : X → Bool) (before after : List X) (x : X) → ((y : X) → IsMember y before → p y ≡ false) → p x ≡ true → find p (before ++ x ∷ after) ≡ Some x
found_behind p [] after x none passes = cond-true (p x) (Some x) (find p after) passes
found_behind p (y ∷ ys) after x none passes =
    cond-false (p y) (Some y) (find p (ys ++ x ∷ after)) (none y (inl refl)) ∙ found_behind p ys after x (λ z m. none z (inr m)) passes

pub all_from_members : {X : Type 0} (P : X → Type 0) (xs : List X) → ((x : X) → IsMember x xs → P x) → All P xs
all_from_members P [] each = λ k d within. absurd (omega (arith, within))
all_from_members P (x ∷ xs) each = all_of P x xs (each x (inl refl)) (all_from_members P xs (λ y m. each y (inr m)))

pub member_from_all : {X : Type 0} (P : X → Type 0) (xs : List X) → All P xs → (x : X) → IsMember x xs → P x
member_from_all P [] all x m = absurd m
member_from_all P (y ∷ ys) all x (inl same) = subst P same (all 0 y (omega arith))
member_from_all P (y ∷ ys) all x (inr later) = member_from_all P ys (λ k d within. all (suc k) d (omega (arith, within))) x later
