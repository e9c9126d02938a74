-- Resting, where nothing unbuilt stands: the first cause that the body or the end of the input is, and nothing where there
-- is a cause already.
use Rattle.std.proofs.Common.{◌≡◌, ◌≤◌, ℕ, ◌+◌, ◌-◌, Bool, true, false, not, ◌&&◌, ◌||◌, nat_le, nat_lt, leb-true, ltb-true, [], ◌∷◌, Option, Some, None, is_none, is_some, option_map, refl, sym, ap, ◌∙◌, subst, arith, if◌then◌else◌}
use Rattle.std.specs.Prelude.{unwrap_or}
use Rattle.cy_event.specs.declared.limits.Limits.{Limits}
use Rattle.cy_event.specs.declared.steps.CloseCause.{CloseCause}
use Rattle.cy_event.specs.declared.steps.CloseCause.TheVariants.{BadBody, InputEnd, SwallowLimit}
use Rattle.cy_in.specs.Intakes.{swallowed as swallowed_in}
use Rattle.cy_model.specs.Endings.{fault_marks_by}
use Rattle.cy_model.specs.Folds.{bytes_of, cause_of, earlier, has_ended, is_open, last_taken}
use Rattle.cy_model.specs.Inputs.{given_count, has_bad_body, has_whole_body, is_end_told, scan_by, scan_of, swallowed, used, used_at_end, used_by_given}
use Rattle.cy_model.specs.Marks.{TakenUp, Trace, caused}
use Rattle.cy_model.specs.Settling.{after_move, bad_place, body_cause, body_cause_by, end_move, first_move, front_of, is_awaited, may_begin, quiet_step, rested, swallow_place}
use Rattle.cy_model.specs.Unbuilt.{is_unbuilt_cause}
use Rattle.cy_model.proofs.Built.{IsPlain, hears_none, mark_plain, plain_return}
use Rattle.cy_model.proofs.Gone.{may_not_begin, no_end}
use Rattle.cy_model.proofs.Settlings.{rested-done, rested-step}
use Rattle.cy_proc.specs.LineBodies.{intake_of, passed_from, used_mark}
use Rattle.cy_proc.specs.LineChanges.{cause_at_rest, ends_at_rest}
use Rattle.cy_proc.specs.Lines.{line_parts}
use Rattle.cy_proc.proofs.Intakes.{used_is, used_within}

-- ---- the cause that comes now, where there is none

-- of the body, of the end of the input inside it, or where a head is awaited
abbrev pub pick : Option CloseCause → Bool → Bool → Option CloseCause
pick (Some k) inside awaits = Some k
pick None true awaits = Some InputEnd
pick None false true = Some InputEnd
pick None false false = None

abbrev pub ends_inside : Trace → Bool
ends_inside T = has_ended T && not (has_whole_body T)

abbrev pub ends_now : Limits → Trace → Bool
ends_now limits T = may_begin T && (has_ended T && is_awaited (front_of limits T))

abbrev pub cause_now : Limits → Trace → Option CloseCause
cause_now limits T = pick (body_cause limits T) (ends_inside T) (ends_now limits T)

-- the trace with a cause, where one comes
abbrev pub with_cause : ℕ → Trace → Option CloseCause → Trace
with_cause t T None = T
with_cause t T (Some k) = (t, caused k) ∷ T

-- it is one that is built
body_built : (k : CloseCause) (bad long : Option ℕ) → body_cause_by bad long ≡ Some k → is_unbuilt_cause k ≡ false
body_built k None None e = cc
body_built k (Some bad) None e = let same : BadBody ≡ k = cc in subst (λ (c : CloseCause). is_unbuilt_cause c ≡ false) same refl
body_built k None (Some long) e = let same : SwallowLimit ≡ k = cc in subst (λ (c : CloseCause). is_unbuilt_cause c ≡ false) same refl
body_built k (Some bad) (Some long) e =
    elim (nat_le bad long) as (λ v. (if v then Some BadBody else Some SwallowLimit) ≡ Some k → is_unbuilt_cause k ≡ false) [
      | true ↦ λ q. let same : BadBody ≡ k = cc in subst (λ (c : CloseCause). is_unbuilt_cause c ≡ false) same refl
      | false ↦ λ q. let same : SwallowLimit ≡ k = cc in subst (λ (c : CloseCause). is_unbuilt_cause c ≡ false) same refl
    ] e

end_built : (k : CloseCause) → Some InputEnd ≡ Some k → is_unbuilt_cause k ≡ false
end_built k e = let same : InputEnd ≡ k = cc in subst (λ (c : CloseCause). is_unbuilt_cause c ≡ false) same refl

pick_built : (o : Option CloseCause) (inside awaits : Bool) (k : CloseCause) → ((j : CloseCause) → o ≡ Some j → is_unbuilt_cause j ≡ false)
    → pick o inside awaits ≡ Some k → is_unbuilt_cause k ≡ false
pick_built (Some j) inside awaits k built e = built k e
pick_built None true awaits k built e = end_built k e
pick_built None false true k built e = end_built k e
pick_built None false false k built e = cc

pub now_built : (limits : Limits) (T : Trace) (k : CloseCause) → cause_now limits T ≡ Some k → is_unbuilt_cause k ≡ false
now_built limits T k e = pick_built (body_cause limits T) (ends_inside T) (ends_now limits T) k (λ j q. body_built j (bad_place T) (swallow_place limits T) q) e

-- ---- the first of the quiet moves

picked : (t : ℕ) (T : Trace) (o : Option CloseCause) (inside awaits : Bool)
    → after_move t T (first_move (option_map (λ k. caused k ∷ []) o ∷ (if inside then Some (caused InputEnd ∷ []) else None) ∷ None
    ∷ (if awaits then Some (caused InputEnd ∷ []) else None) ∷ []))
    ≡ option_map (λ k. (t, caused k) ∷ T) (pick o inside awaits)
picked t T (Some k) inside awaits = refl
picked t T None true awaits = refl
picked t T None false true = refl
picked t T None false false = refl

quiet_now : (limits : Limits) (t : ℕ) (T : Trace) → IsPlain T → cause_of T ≡ None
    → quiet_step limits t T ≡ option_map (λ k. (t, caused k) ∷ T) (cause_now limits T)
quiet_now limits t T p none =
    let hears = hears_none T p in
    let back = plain_return T p in
    (λ i. after_move t T (first_move (
    (if is_none (none i) then option_map (λ k. caused k ∷ fault_marks_by (hears i)) (body_cause limits T) else None)
    ∷ (if is_none (none i) && ends_inside T then Some (caused InputEnd ∷ fault_marks_by (hears i)) else None)
    ∷ back i ∷ end_move limits T ∷ [])))
    ∙ picked t T (body_cause limits T) (ends_inside T) (ends_now limits T)

quiet_closed : (limits : Limits) (t : ℕ) (T : Trace) → IsPlain T → is_some (cause_of T) ≡ true → quiet_step limits t T ≡ None
quiet_closed limits t T p set =
    let hears = hears_none T p in
    let back = plain_return T p in
    let none = some_isnt_none (cause_of T) set in
    let awaits = no_end limits T (may_not_begin T set) in
    λ i. after_move t T (first_move (
    (if none i then option_map (λ k. caused k ∷ fault_marks_by (hears i)) (body_cause limits T) else None)
    ∷ (if none i && ends_inside T then Some (caused InputEnd ∷ fault_marks_by (hears i)) else None)
    ∷ back i ∷ awaits i ∷ []))
  where
    some_isnt_none : (o : Option CloseCause) → is_some o ≡ true → is_none o ≡ false
    some_isnt_none None e = cc
    some_isnt_none (Some k) e = refl

-- ---- resting

pub rested_closed : (limits : Limits) (t : ℕ) (T : Trace) → IsPlain T → is_some (cause_of T) ≡ true → rested limits t T ≡ T
rested_closed limits t T p set = rested-done limits t T (quiet_closed limits t T p set)

some_first : (o : Option CloseCause) (k : CloseCause) → is_some (earlier o k) ≡ true
some_first None k = refl
some_first (Some j) k = refl

pub rested_now : (limits : Limits) (t : ℕ) (T : Trace) → IsPlain T → cause_of T ≡ None → rested limits t T ≡ with_cause t T (cause_now limits T)
rested_now limits t T p none =
    elim (cause_now limits T) as (λ o. cause_now limits T ≡ o → rested limits t T ≡ with_cause t T o) [
      | None ↦ λ e. rested-done limits t T (quiet_now limits t T p none ∙ ap (option_map (λ k. (t, caused k) ∷ T)) e)
      | Some k ↦ λ e.
          let R : Trace = (t, caused k) ∷ T in
          rested-step limits t T R (quiet_now limits t T p none ∙ ap (option_map (λ k. (t, caused k) ∷ T)) e)
          ∙ rested_closed limits t R (mark_plain t T p (caused k) (now_built limits T k e)) (some_first (cause_of T) k)
    ] refl

-- ---- a line sees that cause

used_none : (T : Trace) → last_taken T ≡ None → used T ≡ 0
used_none T none =
    elim (is_open T && not (is_end_told T)) as (λ v. (if v then used_by_given (last_taken T) (bytes_of T) (given_count T) else (scan_of T).raw) ≡ 0) [
      | true ↦ ap (λ (o : Option TakenUp). used_by_given o (bytes_of T) (given_count T)) none
      | false ↦ ap (λ (o : Option TakenUp). (scan_by o (bytes_of T)).raw) none
    ]

swallowed_by : (T : Trace) (v : Bool) (o : Option TakenUp) → last_taken T ≡ o
    → (used_mark T).raw - unwrap_or (passed_from v o (used_at_end T)) (used_mark T).raw ≡ (if v then 0 else used T - used_at_end T)
swallowed_by T true o is = omega arith
swallowed_by T false None is = omega (arith, used_none T is)
swallowed_by T false (Some r) is = omega (arith, used_is T)

pub swallowed_same : (T : Trace) → swallowed_in (intake_of T) ≡ swallowed T
swallowed_same T = swallowed_by T (is_open T) (last_taken T) refl

swallowed_most : (T : Trace) → swallowed T ≤ used T - used_at_end T
swallowed_most T = elim (is_open T) as (λ v. (if v then 0 else used T - used_at_end T) ≤ used T - used_at_end T) [ true ↦ omega arith | false ↦ omega arith ]

later_place : (limits : Limits) (T : Trace) → nat_lt limits.max_swallow (swallowed T) ≡ true → nat_le (scan_of T).raw (used_at_end T + limits.max_swallow) ≡ false
later_place limits T long =
    elim (nat_le (scan_of T).raw (used_at_end T + limits.max_swallow)) as (λ v. nat_le (scan_of T).raw (used_at_end T + limits.max_swallow) ≡ v → v ≡ false) [
      | true ↦ λ q. absurd (omega (
        arith,
        leb-true (scan_of T).raw (used_at_end T + limits.max_swallow) q,
        ltb-true limits.max_swallow (swallowed T) long,
        swallowed_most T,
        used_is T,
        used_within T,
      ))
      | false ↦ λ q. refl
    ] refl

ended_by : (ended whole may awaits : Bool)
    → (if ended && (not whole || (may && awaits)) then Some InputEnd else None) ≡ pick None (ended && not whole) (may && (ended && awaits))
ended_by false whole true awaits = refl
ended_by false whole false awaits = refl
ended_by true false may awaits = refl
ended_by true true true true = refl
ended_by true true true false = refl
ended_by true true false awaits = refl

pub at_rest_is : (limits : Limits) (m : ℕ) (T : Trace) → cause_at_rest limits (line_parts m T) ≡ cause_now limits T
at_rest_is limits m T =
    ap (λ (n : ℕ). if nat_lt limits.max_swallow n then Some SwallowLimit else if has_bad_body T then Some BadBody
    else if ends_at_rest limits (line_parts m T) then Some InputEnd else None) (swallowed_same T)
    ∙ by_tests (nat_lt limits.max_swallow (swallowed T)) (has_bad_body T) refl
  where
    by_tests : (v w : Bool) → nat_lt limits.max_swallow (swallowed T) ≡ v
        → (if v then Some SwallowLimit else if w then Some BadBody else if ends_at_rest limits (line_parts m T) then Some InputEnd else None)
        ≡ pick (body_cause_by (if w then Some (scan_of T).raw else None) (if v then Some (used_at_end T + limits.max_swallow) else None)) (ends_inside T) (ends_now limits T)
    by_tests true true long =
        sym (ap (λ (v : Bool). pick (if v then Some BadBody else Some SwallowLimit) (ends_inside T) (ends_now limits T)) (later_place limits T long))
    by_tests true false long = refl
    by_tests false true long = refl
    by_tests false false long = ended_by (has_ended T) (has_whole_body T) (may_begin T) (is_awaited (front_of limits T))
