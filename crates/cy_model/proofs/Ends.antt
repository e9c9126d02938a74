-- Each request ends once at most, and a head that is refused is told so.
use Rattle.std.proofs.Common.{◌≡◌, ◌⊎◌, ⊎_elim, ℕ, ◌+◌, Bool, true, false, cond, List, [], ◌∷◌, ◌++◌, length, take, drop, take-append-drop, append_assoc, Option, Some, None, is_some, refl, sym, ap, ◌∙◌, length-append, nat_le, if◌then◌else◌}
use Rattle.std.proofs.lemmas.Bool.{or_left}
use Rattle.cy_event.specs.declared.limits.Limits.{Limits}
use Rattle.cy_event.specs.declared.steps.Call.TheVariants as call
use Rattle.cy_event.specs.declared.steps.CloseCause.{CloseCause}
use Rattle.cy_event.specs.declared.steps.CloseCause.TheVariants.{BadBody, InputEnd, LastAnswer, Refused, SwallowLimit}
use Rattle.cy_event.specs.declared.steps.Event.TheVariants as event
use Rattle.cy_event.specs.declared.steps.Job.{Job}
use Rattle.cy_event.specs.Answers.{refusal_text}
use Rattle.cy_map.specs.declared.rule.Rule.{Rule}
use Rattle.cy_model.specs.Endings.{end_marks}
use Rattle.cy_model.specs.Entries.{is_closed_to, trace_of}
use Rattle.cy_model.specs.Folds.{calls, cause_of, earlier, ended_charts, has_ended, is_open, requests_of, running}
use Rattle.cy_model.specs.Inputs.{has_whole_body}
use Rattle.cy_model.specs.Laws.{RefusalsAreTold, RequestsEndOnce, TakeTurns, TellsRefusal}
use Rattle.cy_model.specs.Marks.{began, called, error_answer, aborted, sent, started, Trace}
use Rattle.cy_model.specs.Outputs.{answering_of, output, writing}
use Rattle.cy_model.specs.Settling.{bad_place, body_cause, body_cause_by, due_of, swallow_place, with_marks}
use Rattle.cy_model.specs.Verdicts.{not_found_status}
use Rattle.cy_model.proofs.Built.{owed_open}
use Rattle.cy_model.proofs.Moves.{EndsWith, IsCauseMove, end_keeps, is_answers, may_begin-parts}
use Rattle.cy_model.proofs.TraceInduction.{IsKept, job_begins, not_found_keeps, return_keeps, returned, trace_keeps, went_on}

one_more : {X : Type 0} (xs : List X) (x : X) → length (xs ++ x ∷ []) ≡ length xs + 1
one_more xs x = length-append xs (x ∷ [])

-- what is known of the ends of requests
pub record Ends (T : Trace) : Type 0 where
  pub turns : TakeTurns T
  pub closed : is_open T ≡ false → (running T ≡ None) × (length (ended_charts T) ≡ length (requests_of T))
  pub goes_on : is_open T ≡ true → length (ended_charts T) + 1 ≡ length (requests_of T)

-- a callback that runs is that of an open request
pub runs_open : (T : Trace) (j : Job) → Ends T → running T ≡ Some j → is_open T ≡ true
runs_open T j k e =
    elim (is_open T) as (λ v. is_open T ≡ v → v ≡ true) [
      | true ↦ λ o. refl
      | false ↦ λ o. absurd (none_runs (running T) j (k.closed o).0 e)
    ] refl
  where
    none_runs : (o : Option Job) (i : Job) → o ≡ None → o ≡ Some i → ⊥
    none_runs o i n s = cc

over_ends : (t : ℕ) (T : Trace) → is_open T ≡ true → TakeTurns T → length (ended_charts T) + 1 ≡ length (requests_of T) → EndsWith Ends t T
over_ends t T open_now turns counts =
    let counted = one_more (ended_charts T) (calls T) ∙ counts in
    record {
      plain = record { turns = (open_now, turns); closed = λ o. (refl, counted); goes_on = λ o. cc };
      closes = λ k q. record { turns = (open_now, turns); closed = λ o. (refl, counted); goes_on = λ o. cc };
    }

-- by the trace T the open request of R ends
request_ends : (t : ℕ) (T R : Trace) → is_open R ≡ true → TakeTurns R → length (ended_charts R) + 1 ≡ length (requests_of R) → Ends (with_marks t (end_marks T) R)
request_ends t T R open_now turns counts =
    end_keeps Ends t T R (over_ends t R open_now turns counts)
    (λ status. over_ends t ((t, error_answer status) ∷ R) open_now turns counts)
    (over_ends t ((t, aborted) ∷ R) open_now turns counts)

-- nothing of the requests changes while one is open
stays_open : (T R : Trace) → is_open R ≡ is_open T → TakeTurns R → ended_charts R ≡ ended_charts T → requests_of R ≡ requests_of T → is_open T ≡ true → Ends T → Ends R
stays_open T R same turns ended taken open_now k = record {
  turns = turns;
  closed = λ o. absurd (both (is_open R) (same ∙ open_now) o);
  goes_on = λ o. ap (λ (n : ℕ). n + 1) (ap length ended) ∙ k.goes_on open_now ∙ sym (ap length taken);
}
  where
    both : (v : Bool) → v ≡ true → v ≡ false → ⊥
    both v p q = cc

pub ends_kept : (limits : Limits) (rules : List Rule) → IsKept limits rules Ends
ends_kept limits rules = record {
  opens = λ t T k. record { turns = k.turns; closed = k.closed; goes_on = k.goes_on };
  ends = λ t T k. record { turns = k.turns; closed = k.closed; goes_on = k.goes_on };
  comes = λ t b T taken k. record { turns = k.turns; closed = k.closed; goes_on = k.goes_on };
  sends = λ t n T k. record { turns = k.turns; closed = k.closed; goes_on = k.goes_on };
  causes = λ t c T m k. record { turns = k.turns; closed = k.closed; goes_on = k.goes_on };
  faults = λ t c T m hears k. record { turns = k.turns; closed = k.closed; goes_on = k.goes_on };
  times_out = λ t T q k. record { turns = k.turns; closed = k.closed; goes_on = k.goes_on };
  fails = λ t T q k. record { turns = k.turns; closed = k.closed; goes_on = k.goes_on };
  breaks_off = λ t T q k. record { turns = k.turns; closed = k.closed; goes_on = k.goes_on };
  completes = λ t T q k. request_ends t T (went_on t T) q.open_now k.turns (k.goes_on q.open_now);
  input_ends = λ t T may k. record { turns = k.turns; closed = k.closed; goes_on = k.goes_on };
  refuses = λ t status to_head T may due k. record { turns = k.turns; closed = λ o. (refl, (k.closed o).1); goes_on = k.goes_on };
  finds_none = λ t r T may at due k.
      let shut = (may_begin-parts T may).0 in
      let e = over_ends t ((t, error_answer not_found_status) ∷ (t, began r) ∷ T) refl (shut, k.turns)
      (ap (λ (n : ℕ). n + 1) (k.closed shut).1 ∙ sym (one_more (requests_of T) r)) in
      not_found_keeps Ends t r T e.plain (e.closes LastAnswer refl);
  begins = λ t r T may at due k.
      let shut = (may_begin-parts T may).0 in
      record { turns = (shut, k.turns); closed = λ o. cc; goes_on = λ o. ap (λ (n : ℕ). n + 1) (k.closed shut).1 ∙ sym (one_more (requests_of T) r) };
  serves = λ t j T e k.
      let open_now = owed_open T j e in
      job_begins Ends t j T
      (λ q. stays_open T ((t, started j) ∷ T) refl k.turns refl refl open_now k)
      (λ q. stays_open T ((t, called call.Run None) ∷ (t, started j) ∷ T) refl k.turns refl refl open_now k);
  gives = λ t j n T e may k. record { turns = k.turns; closed = k.closed; goes_on = k.goes_on };
  tells_end = λ t j T e may k. record { turns = k.turns; closed = k.closed; goes_on = k.goes_on };
  puts = λ t j b T e few k. record { turns = k.turns; closed = k.closed; goes_on = k.goes_on };
  returns = λ t j T e k.
      let open_now = runs_open T j k e in
      return_keeps Ends t T
      (λ q. stays_open T (returned t T) refl k.turns refl refl open_now k)
      (λ q. request_ends t T (returned t T) open_now k.turns (k.goes_on open_now));
}

pub nothing_ends : Ends []
nothing_ends = record { turns = tt; closed = λ o. (refl, refl); goes_on = λ o. cc }

pub requests_end_once : RequestsEndOnce
requests_end_once limits rules entries =
    let T = trace_of limits rules entries in
    let k = trace_keeps Ends limits rules (ends_kept limits rules) nothing_ends entries in
    record {
      turns = k.turns;
      charts = elim (is_open T) as (λ v. is_open T ≡ v → length (cond v (ended_charts T ++ calls T ∷ []) (ended_charts T)) ≡ length (requests_of T)) [
        | true ↦ λ o. one_more (ended_charts T) (calls T) ∙ k.goes_on o
        | false ↦ λ o. (k.closed o).1
      ] refl;
    }

-- ---- refusals

-- where a head was refused, no request is open, and the refusal was told
record Refuses (limits : Limits) (rules : List Rule) (T : Trace) : Type 0 where
  ends : Ends T
  told : cause_of T ≡ Some Refused → (is_open T ≡ false) × TellsRefusal limits rules T

-- a later cause of another kind is not the first
first_cause : (cause : Option CloseCause) (k : CloseCause) → (k ≡ Refused → ⊥) → earlier cause k ≡ Some Refused → cause ≡ Some Refused
first_cause None k other e = absurd (other cc)
first_cause (Some first) k other e = e

-- nothing is taken of the input of a connection that closes
still_taken : (T : Trace) → is_closed_to event.In T ≡ false → cause_of T ≡ Some Refused → ⊥
still_taken T taken e =
    let closed = or_left (is_some (cause_of T)) (has_ended T) (ap is_some e) in
    cc

no_cause : (cause : Option CloseCause) → cause ≡ None → cause ≡ Some Refused → ⊥
no_cause cause none e = cc

-- what is due, and what was written, are as before
same_told : (limits : Limits) (rules : List Rule) (T R : Trace) → is_open R ≡ is_open T → due_of limits rules R ≡ due_of limits rules T → output R ≡ output T
    → (is_open T ≡ false) × TellsRefusal limits rules T → (is_open R ≡ false) × TellsRefusal limits rules R
same_told limits rules T R open_same due_same written w =
    let r = w.1 in
    (open_same ∙ w.0, record { status = r.status; to_head = r.to_head; due = due_same ∙ r.due; moment = r.moment; before = r.before; told = written ∙ r.told })

abbrev IsNotRefused : Trace → Type 0
IsNotRefused T = cause_of T ≡ Some Refused → ⊥

both : (v : Bool) → v ≡ true → v ≡ false → ⊥
both v p q = cc

-- while a request is open no head was refused
open_told : (limits : Limits) (rules : List Rule) (T : Trace) → Refuses limits rules T → is_open T ≡ true → IsNotRefused T
open_told limits rules T r o e = both (is_open T) o (r.told e).0

-- an end refuses none
answers_refuse_none : (k : CloseCause) → is_answers k ≡ true → k ≡ Refused → ⊥
answers_refuse_none k a e = refused_no_answer (sym (ap is_answers e) ∙ a)
  where
    refused_no_answer : is_answers Refused ≡ true → ⊥
    refused_no_answer q = cc

over_refuses_none : (t : ℕ) (T : Trace) → IsNotRefused T → EndsWith IsNotRefused t T
over_refuses_none t T n = record { plain = n; closes = λ k a e. n (first_cause (cause_of T) k (answers_refuse_none k a) e) }

never_refused : (t : ℕ) (T R : Trace) → IsNotRefused R → IsNotRefused (with_marks t (end_marks T) R)
never_refused t T R n =
    end_keeps IsNotRefused t T R (over_refuses_none t R n) (λ status. over_refuses_none t ((t, error_answer status) ∷ R) n)
    (over_refuses_none t ((t, aborted) ∷ R) n)

-- a cause of the body or of the end of the input is the first
other_cause : (limits : Limits) (k : CloseCause) (T : Trace) → IsCauseMove limits k T → earlier (cause_of T) k ≡ Some Refused → ⊥
other_cause limits k T m e =
    by_why m.why (refused_first (cause_of T) m.none e)
  where
    refused_first : (o : Option CloseCause) → o ≡ None → earlier o k ≡ Some Refused → k ≡ Refused
    refused_first None n q = cc
    refused_first (Some j) n q = cc

    body_other : (a b : Option ℕ) → body_cause_by a b ≡ Some Refused → ⊥
    body_other None None q = cc
    body_other (Some x) None q = cc
    body_other None (Some y) q = cc
    body_other (Some x) (Some y) q = by_places (nat_le x y) q
      where
        by_places : (v : Bool) → (if v then Some BadBody else Some SwallowLimit) ≡ Some Refused → ⊥
        by_places true q = cc
        by_places false q = cc

    by_why : (body_cause limits T ≡ Some k) ⊎ ((k ≡ InputEnd) × (has_ended T ≡ true) × (has_whole_body T ≡ false)) → k ≡ Refused → ⊥
    by_why w is = ⊎_elim (λ (b : body_cause limits T ≡ Some k). body_other (bad_place T) (swallow_place limits T) (b ∙ ap Some is)) (λ i. input_other (sym i.0 ∙ is)) w
      where
        input_other : InputEnd ≡ Refused → ⊥
        input_other q = cc

-- what the socket takes changes nothing of all that was written
sent_output : (t n : ℕ) (T : Trace) → output ((t, sent n) ∷ T) ≡ output T
sent_output t n T =
    append_assoc (writing T).past (take n (answering_of T).output) (drop n (answering_of T).output)
    ∙ ap (λ (l : List ℕ). (writing T).past ++ l) (take-append-drop n (answering_of T).output)

refuses_kept : (limits : Limits) (rules : List Rule) → IsKept limits rules (Refuses limits rules)
refuses_kept limits rules =
    let k = ends_kept limits rules in
    record {
      opens = λ t T r. record { ends = k.opens t T r.ends; told = λ e. same_told limits rules T _ refl refl refl (r.told e) };
      ends = λ t T r. record { ends = k.ends t T r.ends; told = λ e. same_told limits rules T _ refl refl refl (r.told e) };
      comes = λ t b T taken r. record { ends = k.comes t b T taken r.ends; told = λ e. absurd (still_taken T taken e) };
      sends = λ t n T r. record { ends = k.sends t n T r.ends; told = λ e. same_told limits rules T ((t, sent n) ∷ T) refl refl (sent_output t n T) (r.told e) };
      causes = λ t c T m r. record { ends = k.causes t c T m r.ends; told = λ e. absurd (other_cause limits c T m e) };
      faults = λ t c T m hears r. record { ends = k.faults t c T m hears r.ends; told = λ e. absurd (other_cause limits c T m e) };
      times_out = λ t T q r. record { ends = k.times_out t T q r.ends; told = λ e. absurd (open_told limits rules T r q.open_now e) };
      fails = λ t T q r. record { ends = k.fails t T q r.ends; told = λ e. absurd (open_told limits rules T r q.open_now e) };
      breaks_off = λ t T q r. record { ends = k.breaks_off t T q r.ends; told = λ e. absurd (open_told limits rules T r q.open_now e) };
      completes = λ t T q r. record { ends = k.completes t T q r.ends; told = λ e. absurd (never_refused t T (went_on t T) (open_told limits rules T r q.open_now) e) };
      input_ends = λ t T may r. record {
        ends = k.input_ends t T may r.ends;
        told = λ e. same_told limits rules T _ refl refl refl (r.told (first_cause (cause_of T) InputEnd (λ q. cc) e));
      };
      refuses = λ t status to_head T may due r. record {
        ends = k.refuses t status to_head T may due r.ends;
        told = λ e. (
          (may_begin-parts T may).0,
          record {
            status = status;
            to_head = to_head;
            moment = t;
            before = output T;
            due = due;
            told = sym (append_assoc (writing T).past (answering_of T).output (refusal_text status to_head t));
          },
        );
      };
      finds_none = λ t q T may at due r.
          let none = (may_begin-parts T may).1 in record {
            ends = k.finds_none t q T may at due r.ends;
            told = λ e. absurd (not_found_keeps (IsNotRefused) t q T (no_cause (cause_of T) none)
                (λ c. no_cause (cause_of T) none (first_cause (cause_of T) LastAnswer (λ q. cc) c)) e);
          };
      begins = λ t q T may at due r. record {
        ends = k.begins t q T may at due r.ends;
        told = λ e. absurd (no_cause (cause_of T) (may_begin-parts T may).1 e);
      };
      serves = λ t j T e r. record {
        ends = k.serves t j T e r.ends;
        told = λ c. absurd (job_begins IsNotRefused t j T (λ q. open_told limits rules T r (owed_open T j e)) (λ q. open_told limits rules T r (owed_open T j e)) c);
      };
      gives = λ t j n T e may r. record {
        ends = k.gives t j n T e may r.ends;
        told = λ c. absurd (open_told limits rules T r (runs_open T j r.ends e) c);
      };
      tells_end = λ t j T e may r. record {
        ends = k.tells_end t j T e may r.ends;
        told = λ c. absurd (open_told limits rules T r (runs_open T j r.ends e) c);
      };
      puts = λ t j b T e few r. record {
        ends = k.puts t j b T e few r.ends;
        told = λ c. absurd (open_told limits rules T r (runs_open T j r.ends e) c);
      };
      returns = λ t j T e r. record {
        ends = k.returns t j T e r.ends;
        told = λ c. absurd (return_keeps IsNotRefused t T (λ q. open_told limits rules T r (runs_open T j r.ends e))
            (λ q. never_refused t T (returned t T) (open_told limits rules T r (runs_open T j r.ends e))) c);
      };
    }

pub refusals_are_told : RefusalsAreTold
refusals_are_told limits rules entries e =
    ((trace_keeps (Refuses limits rules) limits rules (refuses_kept limits rules) (record { ends = nothing_ends; told = λ c. cc }) entries).told e).1
