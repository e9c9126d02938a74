-- A worker's turn begins the service of an open request.
use Rattle.std.proofs.Common.{◌≡◌, ℕ, ◌+◌, Bool, true, false, not, ◌&&◌, ◌==◌, cond, List, [], ◌∷◌, length, Option, Some, None, is_none, is_some, refl, ap, ◌∙◌, subst, sym, arith, if◌then◌else◌}
use Rattle.std.proofs.lemmas.Bool.{and_left, and_right}
use Rattle.cy_event.specs.declared.limits.Limits.{Limits}
use Rattle.cy_event.specs.declared.steps.Job.{Job}
use Rattle.cy_event.specs.declared.steps.Job.TheVariants as job
use Rattle.cy_event.specs.declared.steps.Reply.TheVariants as reply
use Rattle.cy_event.specs.declared.steps.State.TheVariants as state
use Rattle.cy_event.specs.Framings.{Framed}
use Rattle.cy_event.specs.Heads.{Front, Head, awaited, found, malformed}
use Rattle.cy_map.specs.declared.rule.Rule.{Rule}
use Rattle.cy_model.specs.Endings.{end_marks}
use Rattle.cy_model.specs.Entries.{after, after_turn, ended_count, job_marks, job_reply, owed_after, reply_to, trace_of}
use Rattle.cy_model.specs.Folds.{begun_count, cause_of, is_open, is_served, part_of, request_of, running}
use Rattle.cy_model.specs.Inputs.{consumed}
use Rattle.cy_model.specs.Jobs.{asking, job_owed, next_job, service_in}
use Rattle.cy_model.specs.Laws.{TurnBegins, TurnsServe}
use Rattle.cy_model.specs.Marks.{TakenUp, Trace, aborted, began, caused, error_answer, over}
use Rattle.cy_model.specs.Outputs.{is_gone, unsent}
use Rattle.cy_model.specs.Replies.{plain}
use Rattle.cy_model.specs.Settling.{after_move, due_by_front, due_by_verdict, due_of, front_of, next_move, request, settled, taken_up_by, with_marks}
use Rattle.cy_model.specs.Verdicts.{turned_away, unserved, served, verdict_of}
use Rattle.cy_model.proofs.Built.{IsPlain, asked_service, service_owed}
use Rattle.cy_model.proofs.BuiltInduction.{IsKeptWhereBuilt, built_trace_keeps}
use Rattle.cy_model.proofs.BuiltKept.{plainly}
use Rattle.cy_model.proofs.Moves.{EndsWith, end_keeps}
use Rattle.cy_model.proofs.Settlings.{settled-done}
use Rattle.cy_model.proofs.TraceInduction.{not_found_keeps, return_keeps, returned, went_on}
use Rattle.cy_model.proofs.Waiting.{open_rests}

-- the rule that serves a head names this component
record IsMapped (rules : List Rule) (head : Head) (part : ℕ) : Type 0 where
  rule : Rule
  framing : Framed
  verdict : verdict_of rules head ≡ served rule framing
  names : part ≡ rule.part

due_mapped : (limits : Limits) (rules : List Rule) (place number : ℕ) (f : Front) (r : TakenUp) → due_by_front limits rules place number f ≡ request r
    → IsMapped rules r.head r.part
due_mapped limits rules place number awaited r e = cc
due_mapped limits rules place number malformed r e = cc
due_mapped limits rules place number (found n h) r e =
    elim (verdict_of rules h) as (λ v. verdict_of rules h ≡ v → due_by_verdict limits place number n h v ≡ request r → IsMapped rules r.head r.part) [
      | turned_away status ↦ λ is d. cc
      | unserved f ↦ λ is d. cc
      | served rule f ↦ λ is d.
          let same : taken_up_by limits place number n h f rule.part rule.can_async ≡ r = cc in
          subst (λ (q : TakenUp). IsMapped rules q.head q.part) same (record { rule = rule; framing = f; verdict = is; names = refl })
    ] refl e

-- what is known of an open request
record IsToServe (rules : List Rule) (T : Trace) : Type 0 where
  -- no callback runs before its service
  fresh : is_open T ≡ true → is_served T ≡ false → running T ≡ None
  mapped : (r : TakenUp) → is_open T ≡ true → request_of T ≡ Some r → IsMapped rules r.head (part_of T)

closed_serves : (rules : List Rule) (T : Trace) → is_open T ≡ false → IsToServe rules T
closed_serves rules T closed = record { fresh = λ o s. cc; mapped = λ r o e. cc }

-- by the trace T the request of R ends
ended_serves : (rules : List Rule) (t : ℕ) (T R : Trace) → IsToServe rules (with_marks t (end_marks T) R)
ended_serves rules t T R =
    end_keeps (IsToServe rules) t T R (over_serves R) (λ status. over_serves ((t, error_answer status) ∷ R)) (over_serves ((t, aborted) ∷ R))
  where
    over_serves : (S : Trace) → EndsWith (IsToServe rules) t S
    over_serves S = record { plain = closed_serves rules ((t, over) ∷ S) refl; closes = λ k a. closed_serves rules ((t, caused k) ∷ (t, over) ∷ S) refl }

begun_serves : (limits : Limits) (rules : List Rule) (t : ℕ) (r : TakenUp) (T : Trace) → due_of limits rules T ≡ request r → IsToServe rules ((t, began r) ∷ T)
begun_serves limits rules t r T due = record {
  fresh = λ o s. refl;
  mapped = λ q o e.
      let same : r ≡ q = cc in
      subst (λ (p : TakenUp). IsMapped rules p.head r.part) same (due_mapped limits rules (consumed T) (begun_count T + 1) (front_of limits T) r due);
}

served_serves : (rules : List Rule) (t n : ℕ) (T : Trace) → IsToServe rules T → IsToServe rules (with_marks t (job_marks (Some (job.Service n))) T)
served_serves rules t n T c = record { fresh = λ o s. cc; mapped = c.mapped }

serves_kept : (limits : Limits) (rules : List Rule) → IsKeptWhereBuilt limits rules (IsToServe rules)
serves_kept limits rules = record {
  opens = λ t T b c. record { fresh = c.fresh; mapped = c.mapped };
  ends = λ t T b c. record { fresh = c.fresh; mapped = c.mapped };
  comes = λ t x T taken b c. record { fresh = c.fresh; mapped = c.mapped };
  sends = λ t n T b c. record { fresh = c.fresh; mapped = c.mapped };
  causes = λ t k T m b c. record { fresh = c.fresh; mapped = c.mapped };
  faults = λ t k T m hears b c. record { fresh = c.fresh; mapped = c.mapped };
  times_out = λ t T q b c. record { fresh = c.fresh; mapped = c.mapped };
  fails = λ t T q b c. record { fresh = c.fresh; mapped = c.mapped };
  breaks_off = λ t T q b c. record { fresh = c.fresh; mapped = c.mapped };
  completes = λ t T q b c. ended_serves rules t T (went_on t T);
  input_ends = λ t T end b c. record { fresh = c.fresh; mapped = c.mapped };
  refuses = λ t status to_head T may due b c. record { fresh = λ o s. refl; mapped = λ r o e. cc };
  finds_none = λ t r T may at due b c. not_found_keeps (IsToServe rules) t r T (closed_serves rules _ refl) (closed_serves rules _ refl);
  begins = λ t r T may at due b c. begun_serves limits rules t r T due;
  serves = λ t j T e b c.
      let service = service_owed T j (plainly T b) e in
      subst (λ (i : Job). IsToServe rules (with_marks t (job_marks (Some i)) T)) (sym service.1) (served_serves rules t service.0 T c);
  gives = λ t j n T e may b c. record { fresh = c.fresh; mapped = c.mapped };
  tells_end = λ t j T e may b c. record { fresh = c.fresh; mapped = c.mapped };
  puts = λ t j x T e few b c. record { fresh = c.fresh; mapped = c.mapped };
  returns = λ t j T e b c.
      return_keeps (IsToServe rules) t T
      (λ q. record { fresh = λ o s. refl; mapped = c.mapped })
      (λ q. ended_serves rules t T (returned t T));
}

-- ---- the turn

same_number : (n : ℕ) → (n == n) ≡ true
same_number n = grind arith

owed_by : (T : Trace) (named : ℕ) → IsPlain T → is_open T ≡ true → is_served T ≡ false → running T ≡ None → part_of T ≡ named
    → next_job T ≡ Some (job.Service named)
owed_by T named p o unserved_now none part =
    (λ i. if o i && is_none (none i) then job_owed (asking T) else None)
    ∙ asked_service T p
    ∙ (λ i. service_in state.Dispatched (unserved_now i) (part i))

open_is_not_gone : (T : Trace) → is_open T ≡ true → is_gone T ≡ false
open_is_not_gone T o =
    and_right (is_some (cause_of T)) (not (is_open T) && (length (unsent T) == 0)) (and_left (not (is_open T)) (length (unsent T) == 0) (ap not o))

-- what is owed begins, where nothing else is to be done
turn_begins : (limits : Limits) (rules : List Rule) (now : ℕ) (T : Trace) (head : Head) (m : IsMapped rules head (part_of T)) → next_move limits rules T ≡ None → is_open T ≡ true
    → next_job T ≡ Some (job.Service m.rule.part) → TurnBegins limits rules now T head
unfolding reply_to after
turn_begins limits rules now T head m rests o job_now =
    let S = settled limits rules now T in
    let quiet : S ≡ T = settled-done limits rules now T (ap (after_move now T) rests) in
    let owed : owed_after T S ≡ Some (job.Service m.rule.part)
    = ap (owed_after T) quiet ∙ ap (λ (v : Bool). cond v (next_job T) None) (same_number (ended_count T)) ∙ job_now in
    let alive = open_is_not_gone T o in
    record {
      rule = m.rule;
      framing = m.framing;
      mapped = m.verdict;
      reply = ap (λ (v : Bool). if v then plain reply.Closed else plain (job_reply (owed_after T S))) alive ∙ ap (λ (j : Option Job). plain (job_reply j)) owed;
      runs = ap (λ (v : Bool). running (if v then T else after_turn now T S)) alive ∙ ap (λ (j : Option Job). running (with_marks now (job_marks j) S)) owed;
    }

pub turns_serve : TurnsServe
turns_serve limits rules entries now r o unserved_now is =
    let T = trace_of limits rules entries in
    let known = built_trace_keeps limits rules (IsToServe rules) (serves_kept limits rules) (closed_serves rules [] refl) entries in
    let p = plainly T known.0 in
    let m = known.1.mapped r o is in
    turn_begins limits rules now T r.head m (open_rests limits rules entries o) o (owed_by T m.rule.part p o unserved_now (known.1.fresh o unserved_now) m.names)
