-- Whatever the entries of a connection are, no move is left to be made in its trace.
use Rattle.std.proofs.Common.{◌≡◌, ◌≤◌, ℕ, ◌+◌, ltb-true, nat_lt, arith, Bool, true, false, not, ◌&&◌, ◌==◌, cond, List, [], ◌∷◌, Option, Some, None, is_none, is_some, option_map, refl, ap, ◌∙◌, if◌then◌else◌}
use Rattle.cy_event.specs.declared.limits.Limits.{Limits}
use Rattle.cy_event.specs.declared.steps.Call.TheVariants as call
use Rattle.cy_event.specs.declared.steps.CloseCause.TheVariants.{InputEnd}
use Rattle.cy_event.specs.declared.steps.Job.{Job}
use Rattle.cy_event.specs.declared.steps.Job.TheVariants as job
use Rattle.cy_event.specs.Heads.{Front, awaited, front_length}
use Rattle.cy_map.specs.declared.rule.Rule.{Rule}
use Rattle.cy_head.proofs.HeadFronts.{heads_are_awaited}
use Rattle.cy_model.specs.Entries.{Entry, opening, tick, on_event, on_run, on_act, act_marks, after, after_act, ended_count, event_marks, is_closed_to, job_marks, owed_after, trace_of}
use Rattle.cy_model.specs.Folds.{begun_by, callback_of, cause_of, context_of, has_ended, is_open, parked_callback, running, state_of}
use Rattle.cy_model.specs.Inputs.{has_whole_body, used_at_end}
use Rattle.cy_model.specs.Jobs.{next_job}
use Rattle.cy_model.specs.Laws.{NoEndWaits, NoHeadWaits}
use Rattle.cy_model.specs.Marks.{Mark, opened, called, started, Trace}
use Rattle.cy_model.specs.Outputs.{is_gone}
use Rattle.cy_model.specs.Settling.{Move, body_cause, body_cause_by, body_move, cause_and_fault, due_by_front, due_move, end_move, first_move, front_of, head_move, input_move, is_empty_jobs, next_move, return_marks_in, return_move, settled, with_marks}
use Rattle.cy_model.proofs.Built.{owed_open}
use Rattle.cy_model.proofs.Gone.{all_still, no_end, no_head, open_may_not_begin}
use Rattle.cy_model.proofs.Settlings.{awaited_at_rest, goes_on_at_rest, settled-rests}
use Rattle.cy_model.proofs.TraceInduction.{either_way, job_begins}

-- with no entry no byte waits
nothing_is_awaited : (limits : Limits) → 1 ≤ limits.max_head → front_of limits [] ≡ awaited
unfolding front_length
nothing_is_awaited limits long = (heads_are_awaited limits.max_head limits.max_fields []).1 (refl, long)

head_none : (move : Move) (moves : List Move) → first_move (move ∷ moves) ≡ None → move ≡ None
head_none None moves e = refl
head_none (Some ms) moves e = cc

rest_none : (move : Move) (moves : List Move) → first_move (move ∷ moves) ≡ None → first_move moves ≡ None
rest_none None moves e = e
rest_none (Some ms) moves e = cc

-- whether there is a move doesn't hang on what it would be
still_none : {X Y : Type 0} (v : Bool) (o : Option X) (f g : X → Y) → (if v then option_map f o else None) ≡ None → (if v then option_map g o else None) ≡ None
still_none true None f g e = refl
still_none true (Some x) f g e = cc
still_none false o f g e = refl

neither : {X : Type 0} (v : Bool) (x y : X) → (if v then Some x else None) ≡ None → (if v then Some y else None) ≡ None
neither true x y e = cc
neither false x y e = refl

-- a callback runs as soon as it has begun
begun_runs : (j : Job) (before : Option Job) → is_none (begun_by j before) ≡ false
begun_runs (job.Service part) before = refl
begun_runs (job.Again part) before = refl
begun_runs job.Resume None = refl
begun_runs job.Resume (Some j) = refl
begun_runs job.Readable before = refl
begun_runs job.AllRead before = refl
begun_runs job.Writable before = refl
begun_runs job.ReadError before = refl
begun_runs job.WriteError before = refl
begun_runs (job.OnTimeout listener tag) before = refl
begun_runs (job.OnError listener tag) before = refl
begun_runs (job.OnComplete listener tag) before = refl

below_none : (n : ℕ) → nat_lt n 0 ≡ false
below_none n = elim (nat_lt n 0) as (λ v. nat_lt n 0 ≡ v → v ≡ false) [ true ↦ λ e. absurd (omega (arith, ltb-true n 0 e)) | false ↦ λ e. refl ] refl

module _ (limits : Limits) (rules : List Rule) where
  -- no move applies
  abbrev Rests : Trace → Type 0
  Rests T = next_move limits rules T ≡ None

  -- without a request nothing is passed over
  nothing_passed : body_move limits [] ≡ None
  nothing_passed =
      ap (λ (v : Bool). option_map (cause_and_fault []) (body_cause_by None (if v then Some (used_at_end [] + limits.max_swallow) else None)))
      (below_none limits.max_swallow)

  nothing_rests : 1 ≤ limits.max_head → Rests []
  nothing_rests long =
      all_still limits rules [] nothing_passed refl refl refl
      (ap (λ (f : Front). due_move (due_by_front limits rules 0 1 f)) (nothing_is_awaited limits long))

  -- while a callback of an open request runs, only its body or the end of the input may be a cause
  begun_rests : (T R : Trace) → is_open R ≡ true → is_none (running R) ≡ false → is_none (cause_of R) ≡ is_none (cause_of T)
      → body_cause limits R ≡ body_cause limits T → has_ended R ≡ has_ended T → has_whole_body R ≡ has_whole_body T → Rests T → Rests R
  begun_rests T R open_now runs cause body ended whole rests =
      let may = open_may_not_begin R open_now in
      let first = head_none (body_move limits T) (input_move T ∷ return_move T ∷ end_move limits T ∷ head_move limits rules T ∷ []) rests in
      let others = rest_none (body_move limits T) (input_move T ∷ return_move T ∷ end_move limits T ∷ head_move limits rules T ∷ []) rests in
      let second = head_none (input_move T) (return_move T ∷ end_move limits T ∷ head_move limits rules T ∷ []) others in
      all_still limits rules R
      ((λ i. if cause i then option_map (cause_and_fault R) (body i) else None)
      ∙ still_none (is_none (cause_of T)) (body_cause limits T) (cause_and_fault T) (cause_and_fault R) first)
      ((λ i. if cause i && (ended i && not (whole i)) then Some (cause_and_fault R InputEnd) else None)
      ∙ neither (is_none (cause_of T) && (has_ended T && not (has_whole_body T))) (cause_and_fault T InputEnd) (cause_and_fault R InputEnd) second)
      (no_return (is_open R) (running R) (is_none (parked_callback R) && is_empty_jobs (context_of R).owed) (return_marks_in (state_of R) R) runs)
      (no_end limits R may) (no_head limits rules R may)
    where
      no_return : (v : Bool) (o : Option Job) (w : Bool) (m : Move) → is_none o ≡ false → (if v && (is_none o && w) then m else None) ≡ None
      no_return true None w m e = cc
      no_return true (Some i) w m e = refl
      no_return false o w m e = refl

  -- a callback that is owed belongs to an open request
  job_rests : (t : ℕ) (T : Trace) (o : Option Job) → next_job T ≡ o → Rests T → Rests (with_marks t (job_marks o) T)
  job_rests t T None e rests = rests
  job_rests t T (Some j) e rests =
      let open_now = owed_open T j e in
      job_begins Rests t j T
      (λ q. begun_rests T ((t, started j) ∷ T) open_now (begun_runs j (callback_of T)) refl refl refl refl rests)
      (λ q. begun_rests T ((t, called call.Run None) ∷ (t, started j) ∷ T) open_now (begun_runs j (callback_of T)) refl refl refl refl rests)

  turn_rests : (t : ℕ) (T : Trace) → Rests (with_marks t (job_marks (owed_after T (settled limits rules t T))) (settled limits rules t T))
  turn_rests t T =
      let S = settled limits rules t T in
      let rests : Rests S = settled-rests limits rules t T in
      elim (ended_count S == ended_count T) as (λ v. Rests (with_marks t (job_marks (cond v (next_job S) None)) S)) [
        | true ↦ job_rests t S (next_job S) refl rests
        | false ↦ rests
      ]

  -- what holds of each trace to which no move applies, and of the one before an entry, holds behind it
  act_rests : (Q : Trace → Type 0) → ((S : Trace) → Rests S → Q S) → (t : ℕ) (T : Trace) (o : Option (List Mark)) → Q T → Q (after_act limits rules t T o)
  act_rests Q at_rest t T None before = before
  act_rests Q at_rest t T (Some ms) before =
      at_rest (settled limits rules t (with_marks t ms T)) (settled-rests limits rules t (with_marks t ms T))

  entry_rests : (Q : Trace → Type 0) → ((S : Trace) → Rests S → Q S) → (t : ℕ) (T : Trace) (e : Entry) → Q T → Q (after limits rules t T e)
  unfolding after
  entry_rests Q at_rest t T opening before = at_rest (settled limits rules t ((t, opened) ∷ T)) (settled-rests limits rules t ((t, opened) ∷ T))
  entry_rests Q at_rest t T tick before = at_rest (settled limits rules t T) (settled-rests limits rules t T)
  entry_rests Q at_rest t T (on_event e b) before =
      let R = with_marks t (event_marks T e b) T in
      either_way Q (is_closed_to e T) T _ before (at_rest (settled limits rules t R) (settled-rests limits rules t R))
  entry_rests Q at_rest t T on_run before =
      let S = settled limits rules t T in
      either_way Q (is_gone T) T _ before (at_rest (with_marks t (job_marks (owed_after T S)) S) (turn_rests t T))
  entry_rests Q at_rest t T (on_act a b) before =
      either_way Q (is_gone T) T _ before
      (either_way Q (is_some (running T)) _ T (act_rests Q at_rest t T (act_marks limits T a b) before) before)

  entries_lead : (Q : Trace → Type 0) → ((S : Trace) → Rests S → Q S) → Q [] → (entries : List (ℕ × Entry)) → Q (trace_of limits rules entries)
  entries_lead Q at_rest start [] = start
  entries_lead Q at_rest start ((t, e) ∷ entries) =
      entry_rests Q at_rest t (trace_of limits rules entries) e (entries_lead Q at_rest start entries)

  pub entries_rest : 1 ≤ limits.max_head → (entries : List (ℕ × Entry)) → Rests (trace_of limits rules entries)
  entries_rest long entries = entries_lead Rests (λ S rests. rests) (nothing_rests long) entries

  -- while a request is open, whatever the limits are
  pub open_rests : (entries : List (ℕ × Entry)) → is_open (trace_of limits rules entries) ≡ true → Rests (trace_of limits rules entries)
  open_rests entries = entries_lead (λ S. is_open S ≡ true → Rests S) (λ S rests o. rests) (λ o. cc) entries

pub no_head_waits : NoHeadWaits
no_head_waits limits rules entries long may =
    awaited_at_rest limits rules (trace_of limits rules entries) (entries_rest limits rules long entries) may

pub no_end_waits : NoEndWaits
no_end_waits limits rules entries long may =
    goes_on_at_rest limits rules (trace_of limits rules entries) (entries_rest limits rules long entries) may
