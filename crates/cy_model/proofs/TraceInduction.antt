-- What the marks of every entry and every move keep holds of the trace of any entries.
use Rattle.std.proofs.Common.{◌≡◌, ℕ, ◌+◌, Bool, true, false, ◌≤◌, ◌-◌, min, length, length-take, arith, cond, List, [], ◌∷◌, take, Option, Some, None, is_some, refl, sym, ap, subst, if◌then◌else◌, ◌==◌}
use Rattle.cy_event.specs.declared.limits.Limits.{Limits}
use Rattle.cy_event.specs.declared.steps.Act.{Act}
use Rattle.cy_event.specs.declared.steps.Act.TheVariants as act
use Rattle.cy_event.specs.declared.steps.Call.TheVariants as call
use Rattle.cy_event.specs.declared.steps.CloseCause.{CloseCause}
use Rattle.cy_event.specs.declared.steps.CloseCause.TheVariants.{InputEnd, LastAnswer, Refused}
use Rattle.cy_event.specs.declared.steps.Event.{Event}
use Rattle.cy_event.specs.declared.steps.Event.TheVariants as event
use Rattle.cy_event.specs.declared.steps.Job.{Job}
use Rattle.cy_event.specs.declared.steps.State.{State}
use Rattle.cy_event.specs.declared.steps.State.TheVariants as state
use Rattle.cy_event.specs.Callbacks.{makes_calls}
use Rattle.cy_event.specs.Answers.{content_buffer}
use Rattle.cy_event.specs.Heads.{found}
use Rattle.cy_event.specs.Table.{is_end, row}
use Rattle.cy_map.specs.declared.rule.Rule.{Rule}
use Rattle.cy_model.specs.Endings.{end_marks, error_marks, failure_marks, fault_marks_by, hears_fault, server_error}
use Rattle.cy_model.specs.Entries.{Entry, opening, tick, on_event, on_run, on_act, after, after_act, after_callback, act_marks, end_marks_where, ended_count, event_marks, is_closed_act, is_closed_to, is_full, job_marks, open_act_marks, owed_after, return_marks, run_marks, sent_of, trace_of, write_takes}
use Rattle.cy_model.specs.Folds.{begun_count, cause_of, is_open, running, state_of}
use Rattle.cy_model.specs.Inputs.{consumed, has_whole_body, room, waiting}
use Rattle.cy_model.specs.Jobs.{next_job}
use Rattle.cy_model.specs.Marks.{Mark, opened, ended, end_given, came, given, sent, back, began, refused, called, over, started, put, error_answer, aborted, caused, TakenUp, Trace}
use Rattle.cy_model.specs.Outputs.{answer_of, is_committed, is_gone}
use Rattle.cy_model.specs.Reads.{reading_by, reading_marks}
use Rattle.cy_model.specs.Settling.{Due, cause_and_fault, front_of, is_quiet, last_answer_marks, return_marks_in, settled, with_marks, may_begin, nothing, refusal, not_found, request, due_move, due_of, head_move}
use Rattle.cy_model.specs.Verdicts.{not_found_status}
use Rattle.cy_model.proofs.Moves.{IsCauseMove, IsEndMove}
use Rattle.cy_model.proofs.LeftToDo.{DueTakes, due_takes, head_move-parts}
use Rattle.cy_model.proofs.Settlings.{KeepsQuietMoves, settled-keeps-by}

-- the marks of a request that no rule serves
abbrev pub not_found_marks : TakenUp → List Mark
not_found_marks r = began r ∷ error_answer not_found_status ∷ over ∷ last_answer_marks r.keep

-- the head of a request is the one that stands at the front of the bytes that wait
pub record IsTakenAt (limits : Limits) (r : TakenUp) (T : Trace) : Type 0 where
  pub front : front_of limits T ≡ found r.size r.head
  pub place : r.place ≡ consumed T

-- no callback of an open request runs, waits or is owed, in this state
pub record IsQuietIn (s : State) (T : Trace) : Type 0 where
  pub open_now : is_open T ≡ true
  pub quiet : is_quiet T ≡ true
  pub here : state_of T ≡ s

-- the container returned
abbrev pub went_on : ℕ → Trace → Trace
went_on t T = (t, called call.Return None) ∷ T

-- a callback returned
abbrev pub returned : ℕ → Trace → Trace
returned t T = (t, called call.Return None) ∷ (t, back) ∷ T

-- so much content is delivered: there is no cause to close, and as much waits
pub record MayGive (n : ℕ) (T : Trace) : Type 0 where
  pub calm : cause_of T ≡ None
  pub waits : n ≤ length (waiting T)

-- the end of the content is told: there is no cause to close, none waits, and the body is whole
pub record MayTellEnd (T : Trace) : Type 0 where
  pub calm : cause_of T ≡ None
  pub none_waits : waiting T ≡ []
  pub whole : has_whole_body T ≡ true

-- the marks of each thing that happens keep this
pub record IsKept (limits : Limits) (rules : List Rule) (P : Trace → Type 0) : Type 0 where
  pub opens : (t : ℕ) (T : Trace) → P T → P ((t, opened) ∷ T)
  pub ends : (t : ℕ) (T : Trace) → P T → P ((t, ended) ∷ T)
  pub comes : (t : ℕ) (b : List ℕ) (T : Trace) → is_closed_to event.In T ≡ false → P T → P ((t, came b) ∷ T)
  pub sends : (t n : ℕ) (T : Trace) → P T → P ((t, sent n) ∷ T)
  -- a body, or the end of the input inside it, is a cause to close, and an open request may hear of it
  pub causes : (t : ℕ) (k : CloseCause) (T : Trace) → IsCauseMove limits k T → P T → P ((t, caused k) ∷ T)
  pub faults : (t : ℕ) (k : CloseCause) (T : Trace) → IsCauseMove limits k T → hears_fault T ≡ true → P T
      → P ((t, called call.Fault None) ∷ (t, caused k) ∷ T)
  -- the container returns
  pub times_out : (t : ℕ) (T : Trace) → IsQuietIn state.TimingOut T → P T → P (went_on t T)
  pub fails : (t : ℕ) (T : Trace) → IsQuietIn state.Error T → P T → P ((t, error_answer server_error) ∷ went_on t T)
  pub breaks_off : (t : ℕ) (T : Trace) → IsQuietIn state.Error T → P T → P ((t, aborted) ∷ went_on t T)
  pub completes : (t : ℕ) (T : Trace) → IsQuietIn state.Completing T → P T → P (with_marks t (end_marks T) (went_on t T))
  -- heads, and the end of the input where one is awaited
  pub input_ends : (t : ℕ) (T : Trace) → IsEndMove limits T → P T → P ((t, caused InputEnd) ∷ T)
  pub refuses : (t status : ℕ) (to_head : Bool) (T : Trace) → may_begin T ≡ true → due_of limits rules T ≡ refusal status to_head → P T
      → P ((t, caused Refused) ∷ (t, refused status to_head) ∷ T)
  pub finds_none : (t : ℕ) (r : TakenUp) (T : Trace) → may_begin T ≡ true → IsTakenAt limits r T → due_of limits rules T ≡ not_found r → P T
      → P (with_marks t (not_found_marks r) T)
  pub begins : (t : ℕ) (r : TakenUp) (T : Trace) → may_begin T ≡ true → IsTakenAt limits r T → due_of limits rules T ≡ request r → P T
      → P ((t, began r) ∷ T)
  -- callbacks
  pub serves : (t : ℕ) (j : Job) (T : Trace) → next_job T ≡ Some j → P T → P (with_marks t (job_marks (Some j)) T)
  -- content is delivered, or its end is told
  pub gives : (t : ℕ) (j : Job) (n : ℕ) (T : Trace) → running T ≡ Some j → MayGive n T → P T → P ((t, given n) ∷ T)
  pub tells_end : (t : ℕ) (j : Job) (T : Trace) → running T ≡ Some j → MayTellEnd T → P T → P ((t, end_given) ∷ T)
  -- as much content as the buffer has room for
  pub puts : (t : ℕ) (j : Job) (b : List ℕ) (T : Trace) → running T ≡ Some j → length b ≤ content_buffer - length (answer_of T).content → P T → P ((t, put b) ∷ T)
  pub returns : (t : ℕ) (j : Job) (T : Trace) → running T ≡ Some j → P T → P (with_marks t (return_marks T) T)

-- what holds of both of two traces holds of the one that a test chooses
pub either_way : (P : Trace → Type 0) (test : Bool) (T R : Trace) → P T → P R → P (if test then T else R)
either_way P true T R p q = p
either_way P false T R p q = q

-- the same of the marks of each composite thing
abbrev pub not_found_at : ℕ → TakenUp → Trace → Trace
not_found_at t r T = (t, over) ∷ (t, error_answer not_found_status) ∷ (t, began r) ∷ T

pub not_found_keeps : (P : Trace → Type 0) (t : ℕ) (r : TakenUp) (T : Trace) → P (not_found_at t r T) → P ((t, caused LastAnswer) ∷ not_found_at t r T)
    → P (with_marks t (not_found_marks r) T)
not_found_keeps P t r T kept closed =
    elim r.keep as (λ v. P (with_marks t (began r ∷ error_answer not_found_status ∷ over ∷ last_answer_marks v) T)) [
      | true ↦ kept
      | false ↦ closed
    ]

pub job_begins : (P : Trace → Type 0) (t : ℕ) (j : Job) (T : Trace) → (makes_calls j ≡ false → P ((t, started j) ∷ T))
    → (makes_calls j ≡ true → P ((t, called call.Run None) ∷ (t, started j) ∷ T)) → P (with_marks t (job_marks (Some j)) T)
job_begins P t j T alone calls =
    elim (makes_calls j) as (λ v. makes_calls j ≡ v → P (with_marks t (started j ∷ run_marks v) T)) [
      | true ↦ λ e. calls e
      | false ↦ λ e. alone e
    ] refl

pub return_keeps : (P : Trace → Type 0) (t : ℕ) (T : Trace) → (is_end (row (state_of T) call.Return) ≡ false → P (returned t T))
    → (is_end (row (state_of T) call.Return) ≡ true → P (with_marks t (end_marks T) (returned t T))) → P (with_marks t (return_marks T) T)
return_keeps P t T goes_on ends =
    elim (is_end (row (state_of T) call.Return)) as (λ v. is_end (row (state_of T) call.Return) ≡ v → P (with_marks t (end_marks_where v T) (returned t T))) [
      | true ↦ λ e. ends e
      | false ↦ λ e. goes_on e
    ] refl

some_none : {X : Type 0} (o : Option X) → is_some o ≡ false → o ≡ None
some_none None e = refl
some_none (Some x) e = cc

-- what a write takes fits
taken_fits : (n : ℕ) (b : List ℕ) (waiting : ℕ) → length (take (min n (content_buffer - waiting)) b) ≤ content_buffer - waiting
taken_fits n b waiting = omega (arith, length-take (min n (content_buffer - waiting)) b)

module _ (P : Trace → Type 0) (limits : Limits) (rules : List Rule) (k : IsKept limits rules P) where
  due_keeps : (t : ℕ) (T : Trace) (ms : List Mark) (d : Due) → due_of limits rules T ≡ d → may_begin T ≡ true
      → DueTakes (consumed T) (front_of limits T) d → due_move d ≡ Some ms → P T → P (with_marks t ms T)
  unfolding DueTakes
  due_keeps t T ms nothing due may takes e p = cc
  due_keeps t T ms (refusal status to_head) due may takes e p =
      let same : ms ≡ refused status to_head ∷ caused Refused ∷ [] = cc in
      subst (λ (ns : List Mark). P (with_marks t ns T)) (sym same) (k.refuses t status to_head T may due p)
  due_keeps t T ms (not_found r) due may takes e p =
      let same : ms ≡ not_found_marks r = cc in
      subst (λ (ns : List Mark). P (with_marks t ns T)) (sym same) (k.finds_none t r T may (record { front = takes.0; place = takes.1 }) due p)
  due_keeps t T ms (request r) due may takes e p =
      let same : ms ≡ began r ∷ [] = cc in
      subst (λ (ns : List Mark). P (with_marks t ns T)) (sym same) (k.begins t r T may (record { front = takes.0; place = takes.1 }) due p)

  head_keeps : (t : ℕ) (T : Trace) (ms : List Mark) → head_move limits rules T ≡ Some ms → P T → P (with_marks t ms T)
  head_keeps t T ms e p =
      let w = head_move-parts limits rules T ms e in
      due_keeps t T ms (due_of limits rules T) refl w.0 (due_takes limits rules (consumed T) (begun_count T + 1) (front_of limits T)) w.1 p

  cause_keeps : (t : ℕ) (c : CloseCause) (T : Trace) → IsCauseMove limits c T → P T → P (with_marks t (cause_and_fault T c) T)
  cause_keeps t c T m p =
      elim (hears_fault T) as (λ v. hears_fault T ≡ v → P (with_marks t (caused c ∷ fault_marks_by v) T)) [
        | true ↦ λ e. k.faults t c T m e p
        | false ↦ λ e. k.causes t c T m p
      ] refl

  quiet_return_keeps : (t : ℕ) (T : Trace) (s : State) (ms : List Mark) → IsQuietIn s T → return_marks_in s T ≡ Some ms → P T → P (with_marks t ms T)
  quiet_return_keeps t T state.TimingOut ms q e p =
      let same : ms ≡ called call.Return None ∷ [] = cc in
      subst (λ (ns : List Mark). P (with_marks t ns T)) (sym same) (k.times_out t T q p)
  quiet_return_keeps t T state.Error ms q e p =
      let same : ms ≡ called call.Return None ∷ failure_marks server_error T = cc in
      subst (λ (ns : List Mark). P (with_marks t ns T)) (sym same)
      (elim (is_committed T) as (λ v. P (with_marks t (called call.Return None ∷ error_marks v server_error) T)) [
        | true ↦ k.breaks_off t T q p
        | false ↦ k.fails t T q p
      ])
  quiet_return_keeps t T state.Completing ms q e p =
      let same : ms ≡ called call.Return None ∷ end_marks T = cc in
      subst (λ (ns : List Mark). P (with_marks t ns T)) (sym same) (k.completes t T q p)
  quiet_return_keeps t T s ms q e p = cc

  quiet_kept : KeepsQuietMoves limits P
  quiet_kept = record {
    causes = cause_keeps;
    returns = λ t T ms m p. quiet_return_keeps t T (state_of T) ms (record { open_now = m.open_now; quiet = m.quiet; here = refl }) m.marks p;
    input_ends = k.input_ends;
  }

  settles : (t : ℕ) (T : Trace) → P T → P (settled limits rules t T)
  settles t T p = settled-keeps-by limits rules t P (record { quiet = quiet_kept; heads = head_keeps }) T p

  mark_keeps : (t : ℕ) (T : Trace) (e : Event) (b : List ℕ) → is_closed_to e T ≡ false → P T → P (with_marks t (event_marks T e b) T)
  mark_keeps t T event.In b taken p = k.comes t (take (room T) b) T taken p
  mark_keeps t T event.End b taken p = k.ends t T p
  mark_keeps t T (event.Took n) b taken p = k.sends t (sent_of n T) T p

  event_keeps : (t : ℕ) (T : Trace) (e : Event) (b : List ℕ) → P T → P (if is_closed_to e T then T else settled limits rules t (with_marks t (event_marks T e b) T))
  event_keeps t T e b p =
      elim (is_closed_to e T) as (λ v. is_closed_to e T ≡ v → P (cond v T (settled limits rules t (with_marks t (event_marks T e b) T)))) [
        | true ↦ λ closed. p
        | false ↦ λ taken. settles t (with_marks t (event_marks T e b) T) (mark_keeps t T e b taken p)
      ] refl

  job_keeps : (t : ℕ) (T : Trace) (o : Option Job) → next_job T ≡ o → P T → P (with_marks t (job_marks o) T)
  job_keeps t T None e p = p
  job_keeps t T (Some j) e p = k.serves t j T e p

  reading_keeps : (t : ℕ) (j : Job) (n : ℕ) (T : Trace) (w : List ℕ) (v : Bool) → running T ≡ Some j → cause_of T ≡ None → waiting T ≡ w
      → has_whole_body T ≡ v → P T → P (after_act limits rules t T (reading_marks (reading_by n w v)))
  reading_keeps t j n T (b ∷ content) v e calm waits whole p =
      let taken = length (take n (b ∷ content)) in
      settles t ((t, given taken) ∷ T)
      (k.gives t j taken T e (record { calm = calm; waits = omega (arith, length-take n (b ∷ content), ap length waits) }) p)
  reading_keeps t j n T [] true e calm waits whole p =
      settles t ((t, end_given) ∷ T) (k.tells_end t j T e (record { calm = calm; none_waits = waits; whole = whole }) p)
  reading_keeps t j n T [] false e calm waits whole p = p

  open_act_keeps : (t : ℕ) (j : Job) (T : Trace) (a : Act) (b : List ℕ) → running T ≡ Some j → is_closed_act a T ≡ false → P T
      → P (after_act limits rules t T (open_act_marks limits T a b))
  open_act_keeps t j T (act.Read n) b e calm p =
      reading_keeps t j n T (waiting T) (has_whole_body T) e (some_none (cause_of T) calm) refl refl p
  open_act_keeps t j T (act.Write n) b e calm p =
      let taken = take (write_takes (answer_of T) n) b in
      elim (is_full (answer_of T) n) as (λ v. P (after_act limits rules t T (cond v None (Some (put taken ∷ []))))) [
        | true ↦ p
        | false ↦ settles t ((t, put taken) ∷ T) (k.puts t j taken T e (taken_fits n b (length (answer_of T).content)) p)
      ]
  open_act_keeps t j T act.Return b e calm p = settles t (with_marks t (return_marks T) T) (k.returns t j T e p)

  act_keeps : (t : ℕ) (j : Job) (T : Trace) (a : Act) (b : List ℕ) → running T ≡ Some j → P T → P (after_act limits rules t T (act_marks limits T a b))
  act_keeps t j T a b e p =
      elim (is_closed_act a T) as (λ v. is_closed_act a T ≡ v → P (after_act limits rules t T (cond v None (open_act_marks limits T a b)))) [
        | true ↦ λ closed. p
        | false ↦ λ calm. open_act_keeps t j T a b e calm p
      ] refl

  callback_keeps : (t : ℕ) (T : Trace) (a : Act) (b : List ℕ) → P T → P (after_callback limits rules t T a b)
  callback_keeps t T a b p =
      elim (running T) as (λ o. running T ≡ o → P (if is_some o then after_act limits rules t T (act_marks limits T a b) else T)) [
        | None ↦ λ e. p
        | Some j ↦ λ e. act_keeps t j T a b e p
      ] refl

  -- after a turn the service that is owed begins, unless a request has ended
  turn_keeps : (t : ℕ) (T : Trace) → P T → P (with_marks t (job_marks (owed_after T (settled limits rules t T))) (settled limits rules t T))
  turn_keeps t T p =
      let S = settled limits rules t T in
      elim (ended_count S == ended_count T) as (λ v. P (with_marks t (job_marks (cond v (next_job S) None)) S)) [
        | true ↦ job_keeps t S (next_job S) refl (settles t T p)
        | false ↦ settles t T p
      ]

  pub entry_keeps : (t : ℕ) (T : Trace) (e : Entry) → P T → P (after limits rules t T e)
  unfolding after
  entry_keeps t T opening p = settles t ((t, opened) ∷ T) (k.opens t T p)
  entry_keeps t T tick p = settles t T p
  entry_keeps t T (on_event e b) p = event_keeps t T e b p
  entry_keeps t T on_run p = either_way P (is_gone T) T _ p (turn_keeps t T p)
  entry_keeps t T (on_act a b) p = either_way P (is_gone T) T _ p (callback_keeps t T a b p)

  pub trace_keeps : P [] → (entries : List (ℕ × Entry)) → P (trace_of limits rules entries)
  trace_keeps start [] = start
  trace_keeps start ((t, e) ∷ entries) = entry_keeps t (trace_of limits rules entries) e (trace_keeps start entries)
