-- A body that is bad, and one of which too much was passed over, close their connection.
use Rattle.std.proofs.Common.{◌≡◌, ◌≤◌, ℕ, ◌+◌, Bool, true, false, List, [], ◌∷◌, Option, Some, None, is_none, is_some, nat_le, nat_lt, option_map, refl, ap, ◌∙◌, if◌then◌else◌}
use Rattle.std.proofs.lemmas.Bool.{lt-ltb}
use Rattle.cy_event.specs.declared.limits.Limits.{Limits}
use Rattle.cy_event.specs.declared.body.BodyMark.{BodyMark}
use Rattle.cy_event.specs.declared.steps.CloseCause.{CloseCause}
use Rattle.cy_event.specs.declared.steps.CloseCause.TheVariants.{BadBody, SwallowLimit}
use Rattle.cy_event.specs.Bodies.{body_start, content_in, is_bad, scan_bytes}
use Rattle.cy_in.specs.Continuations.{GoesOn}
use Rattle.cy_in.proofs.BodiesAt.{bad_stage}
use Rattle.cy_in.proofs.GoingOn.{bad_exactly}
use Rattle.cy_map.specs.declared.rule.Rule.{Rule}
use Rattle.cy_model.specs.Entries.{trace_of}
use Rattle.cy_model.specs.Folds.{bytes_of, cause_of, last_taken}
use Rattle.cy_model.specs.Inputs.{behind_head, has_bad_body, scan_by, scan_of, swallowed, used_at_end}
use Rattle.cy_model.specs.Marks.{Mark, TakenUp, Trace}
use Rattle.cy_model.specs.Settling.{Move, bad_place, body_cause, body_cause_by, body_move, cause_and_fault, end_move, first_move, head_move, input_move, next_move, return_move, settled, swallow_place}
use Rattle.cy_model.proofs.Settlings.{settled-rests}
use Rattle.cy_model.proofs.Waiting.{entries_rest}
use Rattle.cy_bodies.specs.Laws.{ClosesWrong, WrongBodiesClose}

first_none : (move : Move) (moves : List Move) → first_move (move ∷ moves) ≡ None → move ≡ None
first_none None moves e = refl
first_none (Some ms) moves e = cc

-- where a body is a cause and no move is left, there is a cause
closed_where : (cause o : Option CloseCause) (f : CloseCause → List Mark)
    → (if is_none cause then option_map f o else None) ≡ None → (o ≡ None → ⊥) → is_some cause ≡ true
closed_where None None f e some = absurd (some refl)
closed_where None (Some k) f e some = cc
closed_where (Some c) o f e some = refl

earlier_is_some : (v : Bool) → (if v then Some BadBody else Some SwallowLimit) ≡ None → ⊥
earlier_is_some true e = cc
earlier_is_some false e = cc

bad_is_cause : (v : Bool) (raw : ℕ) (swallow : Option ℕ) → v ≡ true
    → body_cause_by (if v then Some raw else None) swallow ≡ None → ⊥
bad_is_cause true raw None b e = cc
bad_is_cause true raw (Some s) b e = earlier_is_some (nat_le raw s) e
bad_is_cause false raw swallow b e = cc

long_is_cause : (bad : Option ℕ) (v : Bool) (place : ℕ) → v ≡ true
    → body_cause_by bad (if v then Some place else None) ≡ None → ⊥
long_is_cause None true place l e = cc
long_is_cause (Some raw) true place l e = earlier_is_some (nat_le raw place) e
long_is_cause bad false place l e = cc

-- bytes from which no body goes on are bad
bad_here : (T : Trace) (r : TakenUp) → last_taken T ≡ Some r → 2 ≤ r.max_trailer
    → (GoesOn r.max_trailer r.framing (behind_head (bytes_of T) r) → ⊥) → has_bad_body T ≡ true
bad_here T r is room none =
    let bytes : List ℕ = behind_head (bytes_of T) r in
    let m : BodyMark = scan_bytes r.max_trailer (body_start r.framing) bytes in
    let w = (bad_exactly r.max_trailer r.framing bytes room).only none in
    ap (λ (o : Option TakenUp). is_bad (scan_by o (bytes_of T)).stage) is
    ∙ bad_stage m (content_in r.max_trailer (body_start r.framing) bytes) m.stage w.0 w.1

closes : (limits : Limits) (rules : List Rule) (T : Trace) → next_move limits rules T ≡ None → ClosesWrong limits T
closes limits rules T rests =
    let others : List Move = input_move T ∷ return_move T ∷ end_move limits T ∷ head_move limits rules T ∷ [] in
    let none = first_none (body_move limits T) others rests in
    record {
      bad = λ r is room wrong. closed_where (cause_of T) (body_cause limits T) (cause_and_fault T) none
          (bad_is_cause (has_bad_body T) (scan_of T).raw (swallow_place limits T) (bad_here T r is room wrong));
      long = λ more. closed_where (cause_of T) (body_cause limits T) (cause_and_fault T) none
          (long_is_cause (bad_place T) (nat_lt limits.max_swallow (swallowed T)) (used_at_end T + limits.max_swallow)
          (lt-ltb limits.max_swallow (swallowed T) more));
    }

pub wrong_bodies_close : WrongBodiesClose
wrong_bodies_close = record {
  settling = λ limits rules t T. closes limits rules (settled limits rules t T) (settled-rests limits rules t T);
  entries = λ limits rules entries long. closes limits rules (trace_of limits rules entries) (entries_rest limits rules long entries);
}
