-- Which moves there are, one by one.
use Rattle.std.proofs.Common.{◌≡◌, ℕ, ◌⊎◌, inl, inr, Bool, true, false, not, ◌&&◌, leb, List, [], ◌∷◌, ◌++◌, length, Option, Some, None, is_none, option_map, refl, sym, ◌∙◌, subst, cond, if◌then◌else◌}
use Rattle.std.proofs.lemmas.Bool.{and_parts}
use Rattle.cy_event.specs.declared.limits.Limits.{Limits}
use Rattle.cy_event.specs.declared.steps.CloseCause.{CloseCause}
use Rattle.cy_event.specs.declared.steps.CloseCause.TheVariants.{InputEnd}
use Rattle.cy_event.specs.declared.steps.CloseCause.TheVariants as cause
use Rattle.cy_event.specs.Framings.{bad_request}
use Rattle.cy_model.specs.Endings.{cause_behind, closing_marks_by, end_marks, ends_closed, ends_short, error_marks, failure_marks, is_bad_request}
use Rattle.cy_model.specs.Folds.{cause_of, has_ended, is_open, state_of}
use Rattle.cy_model.specs.Inputs.{has_whole_body}
use Rattle.cy_model.specs.Marks.{Mark, error_answer, aborted, over, caused, Trace}
use Rattle.cy_model.specs.Outputs.{is_aborted, is_committed, unsent}
use Rattle.cy_model.specs.Settling.{Move, begin_bound, body_cause, body_move, cause_and_fault, end_move, first_move, front_of, input_move, is_awaited, is_quiet, may_begin, quiet_moves, return_marks_in, return_move, with_marks}

-- ---- tests

-- what applies where a test holds
pub when_true : {X : Type 0} (v : Bool) (o : Option X) (x : X) → cond v o None ≡ Some x → (v ≡ true) × (o ≡ Some x)
when_true true o x e = (refl, e)
when_true false o x e = cc

pub none_where : {X : Type 0} (o : Option X) → is_none o ≡ true → o ≡ None
none_where None e = refl
none_where (Some x) e = cc

pub false_where : (v : Bool) → not v ≡ true → v ≡ false
false_where true e = cc
false_where false e = refl

-- ---- when a head may be taken up

-- no request is open, there is no cause, and the last body is whole
pub may_begin-parts : (T : Trace) → may_begin T ≡ true → (is_open T ≡ false) × (cause_of T ≡ None)
may_begin-parts T e =
    let few = leb (length (unsent T)) begin_bound in
    let closed = and_parts (not (is_open T)) (is_none (cause_of T) && (has_whole_body T && few)) e in
    let free = and_parts (is_none (cause_of T)) (has_whole_body T && few) closed.1 in
    (false_where (is_open T) closed.0, none_where (cause_of T) free.0)

pub may_begin-whole : (T : Trace) → may_begin T ≡ true → has_whole_body T ≡ true
may_begin-whole T e =
    let few = leb (length (unsent T)) begin_bound in
    let closed = and_parts (not (is_open T)) (is_none (cause_of T) && (has_whole_body T && few)) e in
    let free = and_parts (is_none (cause_of T)) (has_whole_body T && few) closed.1 in
    (and_parts (has_whole_body T) few free.1).0

-- ---- the quiet moves

-- the body or the end of the input is a cause to close
pub record IsCauseMove (limits : Limits) (k : CloseCause) (T : Trace) : Type 0 where
  pub none : cause_of T ≡ None
  pub why : (body_cause limits T ≡ Some k) ⊎ ((k ≡ InputEnd) × (has_ended T ≡ true) × (has_whole_body T ≡ false))

-- the container returns for an open request
pub record IsReturnMove (T : Trace) (ms : List Mark) : Type 0 where
  pub open_now : is_open T ≡ true
  pub quiet : is_quiet T ≡ true
  pub marks : return_marks_in (state_of T) T ≡ Some ms

-- the end of the input is a cause to close: a head may be taken up and is awaited, and none can come
pub record IsEndMove (limits : Limits) (T : Trace) : Type 0 where
  pub may : may_begin T ≡ true
  pub ended : has_ended T ≡ true
  pub awaits : is_awaited (front_of limits T) ≡ true

body_some : (limits : Limits) (T : Trace) (ms : List Mark) → body_move limits T ≡ Some ms → (k : CloseCause) × IsCauseMove limits k T × (ms ≡ cause_and_fault T k)
body_some limits T ms e =
    let w = when_true (is_none (cause_of T)) (option_map (cause_and_fault T) (body_cause limits T)) ms e in
    by_cause (body_cause limits T) refl w.1 (none_where (cause_of T) w.0)
  where
    by_cause : (o : Option CloseCause) → body_cause limits T ≡ o → option_map (cause_and_fault T) o ≡ Some ms → cause_of T ≡ None
        → (k : CloseCause) × IsCauseMove limits k T × (ms ≡ cause_and_fault T k)
    by_cause None is q none = cc
    by_cause (Some k) is q none = (k, record { none = none; why = inl is }, cc)

input_some : (limits : Limits) (T : Trace) (ms : List Mark) → input_move T ≡ Some ms → IsCauseMove limits InputEnd T × (ms ≡ cause_and_fault T InputEnd)
input_some limits T ms e =
    let last : Bool = has_ended T && not (has_whole_body T) in
    let w = when_true (is_none (cause_of T) && last) (Some (cause_and_fault T InputEnd)) ms e in
    let tests = and_parts (is_none (cause_of T)) last w.0 in
    let parts = and_parts (has_ended T) (not (has_whole_body T)) tests.1 in
    (record { none = none_where (cause_of T) tests.0; why = inr (refl, parts.0, false_where (has_whole_body T) parts.1) }, cc)

return_some : (T : Trace) (ms : List Mark) → return_move T ≡ Some ms → IsReturnMove T ms
return_some T ms e =
    let w = when_true (is_open T && is_quiet T) (return_marks_in (state_of T) T) ms e in
    let tests = and_parts (is_open T) (is_quiet T) w.0 in
    record { open_now = tests.0; quiet = tests.1; marks = w.1 }

end_some : (limits : Limits) (T : Trace) (ms : List Mark) → end_move limits T ≡ Some ms → IsEndMove limits T × (ms ≡ caused InputEnd ∷ [])
end_some limits T ms e =
    let last : Bool = has_ended T && is_awaited (front_of limits T) in
    let w = when_true (may_begin T && last) (Some (caused InputEnd ∷ [])) ms e in
    let tests = and_parts (may_begin T) last w.0 in
    let parts = and_parts (has_ended T) (is_awaited (front_of limits T)) tests.1 in
    (record { may = tests.0; ended = parts.0; awaits = parts.1 }, cc)

-- what holds of the marks of each quiet move holds of those of the first that applies
pub quiet_cases : (limits : Limits) (T : Trace) (ms : List Mark) (P : List Mark → Type 0)
    → ((k : CloseCause) → IsCauseMove limits k T → P (cause_and_fault T k)) → ((ns : List Mark) → IsReturnMove T ns → P ns)
    → (IsEndMove limits T → P (caused InputEnd ∷ [])) → first_move (quiet_moves limits T) ≡ Some ms → P ms
quiet_cases limits T ms P causes returns ends e = of_four (body_move limits T) (input_move T) (return_move T) (end_move limits T) refl refl refl refl e
  where
    same : (ns : List Mark) → Some ns ≡ Some ms → ns ≡ ms
    same ns f = cc

    of_four : (a b c d : Move) → body_move limits T ≡ a → input_move T ≡ b → return_move T ≡ c → end_move limits T ≡ d
        → first_move (a ∷ b ∷ c ∷ d ∷ []) ≡ Some ms → P ms
    of_four (Some ns) b c d p q r s f =
        let w = body_some limits T ns p in
        subst P (sym w.2 ∙ same ns f) (causes w.0 w.1)
    of_four None (Some ns) c d p q r s f =
        let w = input_some limits T ns q in
        subst P (sym w.1 ∙ same ns f) (causes InputEnd w.0)
    of_four None None (Some ns) d p q r s f = subst P (same ns f) (returns ns (return_some T ns r))
    of_four None None None (Some ns) p q r s f =
        let w = end_some limits T ns s in
        subst P (sym w.1 ∙ same ns f) (ends w.0)
    of_four None None None None p q r s f = cc

-- ---- the marks of an end

-- a cause that the end of an answer may be
abbrev pub is_answers : CloseCause → Bool
is_answers cause.FailedAnswer = true
is_answers cause.ShortAnswer = true
is_answers cause.LastAnswer = true
is_answers k = false

-- what an end and a cause behind it keep
pub record EndsWith (P : Trace → Type 0) (t : ℕ) (T : Trace) : Type 0 where
  pub plain : P ((t, over) ∷ T)
  pub closes : (k : CloseCause) → is_answers k ≡ true → P ((t, caused k) ∷ (t, over) ∷ T)

closing_keeps : (P : Trace → Type 0) (t : ℕ) (T : Trace) (first : Option CloseCause) (broken_off short closed : Bool) → EndsWith P t T
    → P (with_marks t (closing_marks_by first (cause_behind broken_off short closed)) ((t, over) ∷ T))
closing_keeps P t T None true short closed e = e.closes cause.FailedAnswer refl
closing_keeps P t T None false true closed e = e.closes cause.ShortAnswer refl
closing_keeps P t T None false false true e = e.closes cause.LastAnswer refl
closing_keeps P t T None false false false e = e.plain
closing_keeps P t T (Some k) broken_off short closed e = e.plain

-- by the trace T a request ends behind R, with an error answer, broken off, or as it is
pub end_keeps : (P : Trace → Type 0) (t : ℕ) (T R : Trace) → EndsWith P t R → ((status : ℕ) → EndsWith P t ((t, error_answer status) ∷ R))
    → EndsWith P t ((t, aborted) ∷ R) → P (with_marks t (end_marks T) R)
end_keeps P t T R plain failed broken_off =
    let first = cause_of T in
    let a = is_aborted T in
    let s = ends_short T in
    let c = ends_closed T in
    let behind = cause_behind a s c in
    elim (is_bad_request first) as (λ v. P (with_marks t ((if v then failure_marks bad_request T else []) ++ over ∷ closing_marks_by first behind) R)) [
      | true ↦ elim (is_committed T) as (λ v. P (with_marks t (error_marks v bad_request ++ over ∷ closing_marks_by first behind) R)) [
        | true ↦ closing_keeps P t ((t, aborted) ∷ R) first a s c broken_off
        | false ↦ closing_keeps P t ((t, error_answer bad_request) ∷ R) first a s c (failed bad_request)
      ]
      | false ↦ closing_keeps P t R first a s c plain
    ]
