-- How much is held at each point of a trace, between two moves of the container too.
use Rattle.std.proofs.Common.{◌≡◌, ◌≤◌, ℕ, ◌+◌, ◌-◌, min, Bool, true, false, not, ◌&&◌, List, ◌∷◌, ◌++◌, length, length-append, length-drop, Option, Some, None, arith, refl, sym, ap, subst, if◌then◌else◌}
use Rattle.cy_event.specs.declared.limits.Limits.{Limits}
use Rattle.cy_event.specs.declared.body.BodyMark.{BodyMark}
use Rattle.cy_event.specs.Bodies.{body_start, give_bytes, scan_bytes}
use Rattle.cy_in.proofs.Joins.{scan_join}
use Rattle.cy_map.specs.declared.rule.Rule.{Rule}
use Rattle.cy_model.specs.Folds.{bytes_of, is_open, last_taken}
use Rattle.cy_model.specs.Inputs.{behind_head, consumed, consumed_by, given_count, input_total, is_end_told, room, scan_by, unread, used, used_by_given}
use Rattle.cy_model.specs.Marks.{Mark, TakenUp, Trace, began, came, given, end_given, over}
use Rattle.cy_model.proofs.InputInduction.{KeptByInput, brings, kept_by_input}
use Rattle.cy_model.proofs.TraceInduction.{trace_keeps}
use Rattle.cy_bodies.specs.Laws.{BytesAreHeldWithin, HoldsFew}
use Rattle.cy_bodies.proofs.Prefixes.{drop_longer, give_longer, give_more, give_within, scan_goes}
use Rattle.cy_bodies.proofs.Walks.{AllFit, entries_fit}

-- ---- what is used up is never less

-- what is used of a body, in these bytes, after so much content, while it goes on or not
abbrev used_in : Bool → Option TakenUp → List ℕ → ℕ → ℕ
used_in goes_on last bytes n = if goes_on then used_by_given last bytes n else (scan_by last bytes).raw

scan_longer : (last : Option TakenUp) (bytes more : List ℕ) → (scan_by last bytes).raw ≤ (scan_by last (bytes ++ more)).raw
scan_longer None bytes more = omega arith
scan_longer (Some r) bytes more =
    let w = drop_longer (r.place + r.size) bytes more in
    let start = body_start r.framing in
    let m = scan_bytes r.max_trailer start (behind_head bytes r) in
    let all = ap (λ (bs : List ℕ). (scan_bytes r.max_trailer start bs).raw) w.1 in
    let join = ap (λ (k : BodyMark). k.raw) (scan_join r.max_trailer start (behind_head bytes r) w.0) in
    omega (arith, all, join, scan_goes r.max_trailer m w.0)

given_longer : (last : Option TakenUp) (bytes more : List ℕ) (n : ℕ) → used_by_given last bytes n ≤ used_by_given last (bytes ++ more) n
given_longer None bytes more n = omega arith
given_longer (Some r) bytes more n =
    let w = drop_longer (r.place + r.size) bytes more in
    let start = body_start r.framing in
    subst (λ (bs : List ℕ). used_by_given (Some r) bytes n ≤ (give_bytes r.max_trailer n start bs).mark.raw) (sym w.1)
    (give_longer r.max_trailer n start (behind_head bytes r) w.0)

longer : (goes_on : Bool) (last : Option TakenUp) (bytes more : List ℕ) (n : ℕ) → used_in goes_on last bytes n ≤ used_in goes_on last (bytes ++ more) n
longer true last bytes more n = given_longer last bytes more n
longer false last bytes more n = scan_longer last bytes more

more_given : (last : Option TakenUp) (bytes : List ℕ) (n k : ℕ) → used_by_given last bytes n ≤ used_by_given last bytes (n + k)
more_given None bytes n k = omega arith
more_given (Some r) bytes n k = give_more r.max_trailer n (n + k) (body_start r.framing) (behind_head bytes r) (omega arith)

further : (goes_on : Bool) (last : Option TakenUp) (bytes : List ℕ) (n k : ℕ) → used_in goes_on last bytes n ≤ used_in goes_on last bytes (n + k)
further true last bytes n k = more_given last bytes n k
further false last bytes n k = omega arith

given_within : (last : Option TakenUp) (bytes : List ℕ) (n : ℕ) → used_by_given last bytes n ≤ (scan_by last bytes).raw
given_within None bytes n = omega arith
given_within (Some r) bytes n = give_within r.max_trailer n (body_start r.framing) (behind_head bytes r)

-- the end is told, or the request ends
to_end : (goes_on : Bool) (last : Option TakenUp) (bytes : List ℕ) (n : ℕ) → used_in goes_on last bytes n ≤ used_in false last bytes n
to_end true last bytes n = given_within last bytes n
to_end false last bytes n = omega arith

-- nothing goes on of which the end is told
told_stops : (v : Bool) → (v && not true) ≡ false
told_stops true = refl
told_stops false = refl

mark_uses : (t : ℕ) (m : Mark) (T : Trace) → brings m ≡ false → used T ≤ used ((t, m) ∷ T)
mark_uses t (came b) T e = cc
mark_uses t (began r) T e = cc
mark_uses t (given n) T e = further (is_open T && not (is_end_told T)) (last_taken T) (bytes_of T) (given_count T) n
mark_uses t end_given T e =
    subst (λ (v : Bool). used T ≤ used_in v (last_taken T) (bytes_of T) (given_count T)) (sym (told_stops (is_open T)))
    (to_end (is_open T && not (is_end_told T)) (last_taken T) (bytes_of T) (given_count T))
mark_uses t over T e = to_end (is_open T && not (is_end_told T)) (last_taken T) (bytes_of T) (given_count T)
mark_uses t m T e = omega arith

-- ---- so much is consumed

more_consumed : (last : Option TakenUp) (n k : ℕ) → n ≤ k → consumed_by last n ≤ consumed_by last k
more_consumed None n k less = omega arith
more_consumed (Some r) n k less = omega arith

same_bytes : (t : ℕ) (m : Mark) (T : Trace) → brings m ≡ false → bytes_of ((t, m) ∷ T) ≡ bytes_of T
same_bytes t (came b) T e = cc
same_bytes t m T e = refl

same_last : (t : ℕ) (m : Mark) (T : Trace) → brings m ≡ false → last_taken ((t, m) ∷ T) ≡ last_taken T
same_last t (began r) T e = cc
same_last t m T e = refl

-- no more are held
abbrev IsFew : Trace → Type 0
IsFew T = length (bytes_of T) ≤ consumed T + 16384

record Few (T : Trace) : Type 0 where
  now : IsFew T
  each : HoldsFew T

mark_few : (t : ℕ) (m : Mark) (T : Trace) → brings m ≡ false → IsFew T → IsFew ((t, m) ∷ T)
mark_few t m T e few =
    let S : Trace = (t, m) ∷ T in
    let uses = more_consumed (last_taken T) (used T) (used S) (mark_uses t m T e) in
    omega (arith, few, uses, ap length (same_bytes t m T e), ap (λ (o : Option TakenUp). consumed_by o (used S)) (same_last t m T e))

room_within : (n held left : ℕ) → n ≤ min (16384 - held) left → n ≤ 16384 - held
room_within n held left fits = omega arith

bytes_few : (t : ℕ) (b : List ℕ) (T : Trace) → length b ≤ room T → IsFew T → IsFew ((t, came b) ∷ T)
bytes_few t b T fits few =
    let S : Trace = (t, came b) ∷ T in
    let uses = more_consumed (last_taken T) (used T) (used S)
    (longer (is_open T && not (is_end_told T)) (last_taken T) (bytes_of T) b (given_count T)) in
    let left = room_within (length b) (length (unread T)) (input_total - length (bytes_of T)) fits in
    omega (arith, few, uses, left, length-drop (consumed T) (bytes_of T), length-append (bytes_of T) b)

abbrev FewWhereFit : Trace → Type 0
FewWhereFit T = AllFit T → Few T

few_kept : (limits : Limits) (rules : List Rule) → KeptByInput limits rules FewWhereFit
few_kept limits rules = record {
  others = λ t m T e p all.
      let before = p all.1 in
      let now = mark_few t m T e before.now in
      record { now = now; each = (now, before.each) };
  comes = λ t b T taken p all.
      let before = p all.1 in
      let now = bytes_few t b T all.0 before.now in
      record { now = now; each = (now, before.each) };
  begins = λ t r T may at due p all.
      let before = p all.1 in
      let now : IsFew ((t, began r) ∷ T) = omega (arith, before.now, at.place) in
      record { now = now; each = (now, before.each) };
}

pub bytes_are_held_within : BytesAreHeldWithin
bytes_are_held_within limits rules entries =
    (trace_keeps FewWhereFit limits rules (kept_by_input FewWhereFit limits rules (few_kept limits rules))
    (λ all. record { now = omega arith; each = tt }) entries (entries_fit limits rules entries)).each
