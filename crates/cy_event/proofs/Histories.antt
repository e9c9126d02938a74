-- Histories of the state table: two in a row, and one call more.
use Rattle.std.proofs.Common.{◌≡◌, Bool, true, false, ◌||◌, IsSome, List, [], ◌∷◌, ◌++◌, refl, ap, sym, ◌∙◌}
use Rattle.std.proofs.lemmas.Bool.{or_parts}
use Rattle.cy_event.specs.declared.steps.State.{State}
use Rattle.cy_event.specs.declared.steps.Call.{Call}
use Rattle.cy_event.specs.Table.{row, next_state, is_end, IsLegalFrom, state_from, ends_from}

-- ---- the parts of a legal history

pub first_has_row : (s : State) (k : Call) (ks : List Call) → IsLegalFrom s (k ∷ ks) → IsSome (row s k)
first_has_row s k [] legal = legal
first_has_row s k (j ∷ ks) legal = legal.0

pub rest_is_legal : (s : State) (k : Call) (ks : List Call) → IsLegalFrom s (k ∷ ks) → IsLegalFrom (next_state s k) ks
rest_is_legal s k [] legal = tt
rest_is_legal s k (j ∷ ks) legal = legal.2

-- a call that has a row and ends nothing goes before a legal history
pub legal_before : (s : State) (k : Call) (ks : List Call) → IsSome (row s k) → is_end (row s k) ≡ false → IsLegalFrom (next_state s k) ks → IsLegalFrom s (k ∷ ks)
legal_before s k [] has_row unended legal = has_row
legal_before s k (j ∷ ks) has_row unended legal = (has_row, unended, legal)

pub front_is_legal : (s : State) (ks js : List Call) → IsLegalFrom s (ks ++ js) → IsLegalFrom s ks
front_is_legal s [] js legal = tt
front_is_legal s (k ∷ []) js legal = first_has_row s k js legal
front_is_legal s (k ∷ i ∷ ks) js legal = (legal.0, legal.1, front_is_legal (next_state s k) (i ∷ ks) js legal.2)

pub back_is_legal : (s : State) (ks js : List Call) → IsLegalFrom s (ks ++ js) → IsLegalFrom (state_from s ks) js
back_is_legal s [] js legal = legal
back_is_legal s (k ∷ ks) js legal = back_is_legal (next_state s k) ks js (rest_is_legal s k (ks ++ js) legal)

-- ---- what a history of two parts leaves

pub state_from-append : (s : State) (ks js : List Call) → state_from s (ks ++ js) ≡ state_from (state_from s ks) js
state_from-append s [] js = refl
state_from-append s (k ∷ ks) js = state_from-append (next_state s k) ks js

or_assoc : (a b c : Bool) → ((a || b) || c) ≡ (a || (b || c))
or_assoc true b c = refl
or_assoc false b c = refl

pub ends_from-append : (s : State) (ks js : List Call) → ends_from s (ks ++ js) ≡ (ends_from s ks || ends_from (state_from s ks) js)
ends_from-append s [] js = refl
ends_from-append s (k ∷ ks) js =
    ap (λ (b : Bool). is_end (row s k) || b) (ends_from-append (next_state s k) ks js)
    ∙ sym (or_assoc (is_end (row s k)) (ends_from (next_state s k) ks) (ends_from (state_from (next_state s k) ks) js))

-- ---- one call more

-- a legal history that hasn't ended goes on with a call that has a row
pub legal_more : (s : State) (ks : List Call) (k : Call) → IsLegalFrom s ks → ends_from s ks ≡ false → IsSome (row (state_from s ks) k) → IsLegalFrom s (ks ++ k ∷ [])
legal_more s [] k legal unended has_row = has_row
legal_more s (i ∷ ks) k legal unended has_row =
    let both = or_parts (is_end (row s i)) (ends_from (next_state s i) ks) unended in
    legal_before s i (ks ++ k ∷ []) (first_has_row s i ks legal) both.0
    (legal_more (next_state s i) ks k (rest_is_legal s i ks legal) both.1 has_row)

-- a legal history goes on behind no end
pub nothing_follows_an_end : (s : State) (ks js : List Call) → IsLegalFrom s (ks ++ js) → ends_from s ks ≡ true → js ≡ []
nothing_follows_an_end s [] js legal ended = cc
nothing_follows_an_end s (k ∷ []) [] legal ended = refl
nothing_follows_an_end s (k ∷ []) (j ∷ js) legal ended = absurd (no_end (is_end (row s k)) legal.1 ended)
  where
    no_end : (b : Bool) → b ≡ false → (b || false) ≡ true → ⊥
    no_end true e f = cc
    no_end false e f = cc
nothing_follows_an_end s (k ∷ i ∷ ks) js legal ended =
    nothing_follows_an_end (next_state s k) (i ∷ ks) js legal.2 (later (is_end (row s k)) (ends_from (next_state s k) (i ∷ ks)) legal.1 ended)
  where
    later : (a b : Bool) → a ≡ false → (a || b) ≡ true → b ≡ true
    later true b e f = cc
    later false b e f = f
