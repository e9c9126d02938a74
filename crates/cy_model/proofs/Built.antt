-- What holds of a trace in which nothing stands that isn't built yet, and that the trace of any entries is such a one.
use Rattle.std.proofs.Common.{◌≡◌, ℕ, ◌+◌, ◌-◌, Bool, true, false, ◌&&◌, List, [], ◌∷◌, ◌++◌, Option, Some, None, is_none, is_some, option_map, cond, refl, sym, ap, ◌∙◌, if◌then◌else◌}
use Rattle.std.proofs.lemmas.Bool.{and_parts}
use Rattle.cy_event.specs.declared.steps.Call.{Call}
use Rattle.cy_event.specs.declared.steps.Call.TheVariants as call
use Rattle.cy_event.specs.declared.steps.CloseCause.{CloseCause}
use Rattle.cy_event.specs.declared.steps.Job.{Job}
use Rattle.cy_event.specs.declared.steps.Job.TheVariants as job
use Rattle.cy_event.specs.declared.steps.State.{State}
use Rattle.cy_event.specs.declared.steps.State.TheVariants as state
use Rattle.cy_event.specs.Answers.{Answer}
use Rattle.cy_event.specs.Answering.{Answering, Commit, Sending, Took, after_finish, can_take, cut, is_buffer_full, is_short, mode_in, more_by, push_byte, push_bytes, set_length_of, whole_length_of, with_head, with_room}
use Rattle.cy_event.specs.Callbacks.{Context, is_owed_to_listener, no_context}
use Rattle.cy_event.specs.ReadyListeners.{no_listeners}
use Rattle.cy_event.specs.Table.{next_state, row}
use Rattle.cy_event.specs.Framings.{bad_request}
use Rattle.cy_model.specs.Endings.{cause_behind, closing_marks_by, end_marks, ends_closed, ends_short, error_marks, finished_answer, hears_fault, is_bad_request}
use Rattle.cy_model.specs.Folds.{after_call_at, after_started, cause_of, context_of, is_broken, is_open, is_served, parked_callback, part_of, ready_listeners, running, state_of}
use Rattle.cy_model.specs.Jobs.{asking, first_job, first_owed, job_owed, next_job, ready_in, resumed, service_in}
use Rattle.cy_model.specs.Marks.{Mark, Trace, began, refused, called, started, parked, back, listened, timeout_set, read_listener_set, write_listener_set, not_ready, length_set, answer_reset, put, flushed, error_answer, aborted, over, broken}
use Rattle.cy_model.specs.Outputs.{answer_of, answering_of, end_by, is_aborted, is_committed, is_silent, said_by, sending_of}
use Rattle.cy_model.specs.Settling.{is_quiet, return_marks_in, return_move}
use Rattle.cy_model.specs.Unbuilt.{NothingUnbuilt, is_unbuilt_mark, is_unbuilt_call, is_unbuilt_job}

pub record IsPlain (T : Trace) : Type 0 where
  pub here : state_of T ≡ state.Dispatched
  pub context : context_of T ≡ no_context
  pub listeners : ready_listeners T ≡ no_listeners
  pub parked : parked_callback T ≡ None
  pub whole : is_broken T ≡ false
  pub going : is_aborted T ≡ false
  pub unset : (sending_of T).left ≡ None

-- ---- calls and callbacks

call_stays : (k : Call) (s : State) → is_unbuilt_call k ≡ false → s ≡ state.Dispatched → next_state s k ≡ state.Dispatched
call_stays call.Run s e here = ap (λ (x : State). next_state x call.Run) here
call_stays call.Return s e here = ap (λ (x : State). next_state x call.Return) here
call_stays k s e here = cc

call_context : (t : ℕ) (k : Call) (T : Trace) (c : Context) → is_unbuilt_call k ≡ false → state_of T ≡ state.Dispatched → after_call_at t k T c ≡ c
call_context t call.Run T c e here = rw (here, after_call_at) refl
call_context t call.Return T c e here = rw (here, after_call_at) refl
call_context t k T c e here = cc

job_context : (j : Job) (c : Context) → is_unbuilt_job j ≡ false → after_started (is_owed_to_listener j) c ≡ c
job_context (job.Service n) c e = refl
job_context j c e = cc

-- ---- no length is set

said_left : (cause : Option CloseCause) (a : Answering) → a.sending.left ≡ None → (said_by cause a).sending.left ≡ None
said_left None a e = e
said_left (Some k) a e =
    elim a.sending.commit as (λ o. let s : Sending = elim o [
      | None ↦ record a.sending { asked = record { minor = a.sending.asked.minor; is_head = a.sending.asked.is_head; keep = false } }
      | Some c ↦ a.sending
    ] in s.left ≡ None) [ None ↦ e | Some c ↦ e ]

head_left : (head : Answer) (t : ℕ) (n : Option ℕ) (a : Answering) → (with_head head t n a).sending.left ≡ a.sending.left
head_left head t n a = by_commit a.sending.commit refl
  where
    by_commit : (o : Option Commit) → a.sending.commit ≡ o → (with_head head t n a).sending.left ≡ a.sending.left
    by_commit None e = rw (e, with_head) refl
    by_commit (Some c) e = rw (e, with_head) refl

room_left : (head : Answer) (t : ℕ) (a : Answering) → (with_room head t a).sending.left ≡ a.sending.left
room_left head t a =
    elim (is_buffer_full a.sending) as (λ v. let r : Answering = elim v [ true ↦ cut head t a | false ↦ a ] in r.sending.left ≡ a.sending.left) [
      | true ↦ head_left head t (set_length_of a.sending) a
      | false ↦ refl
    ]

push_left : (head : Answer) (t : ℕ) (bytes : List ℕ) (a : Answering) → a.sending.left ≡ None → (push_bytes head t bytes a).after.sending.left ≡ None
push_left head t [] a e = e
push_left head t (b ∷ bytes) a e =
    elim (can_take a) as (λ v. let r : Took = elim v [
      | true ↦ more_by 1 (push_bytes head t bytes (push_byte head t b a))
      | false ↦ record { count = 0; after = a }
    ] in r.after.sending.left ≡ None) [
      | true ↦ push_left head t bytes (push_byte head t b a) (ap (λ (o : Option ℕ). option_map (λ n. n - 1) o) (room_left head t a ∙ e))
      | false ↦ e
    ]

finish_left : (head : Answer) (t : ℕ) (a : Answering) → a.sending.left ≡ None → (after_finish head t a).sending.left ≡ None
finish_left head t a e = head_left head t (Some (whole_length_of a.sending)) a ∙ e

end_left : (silent : Bool) (head : Answer) (t : ℕ) (cause : Option CloseCause) (a : Answering) → a.sending.left ≡ None → (end_by cause silent head t a).sending.left ≡ None
end_left true head t cause a e = said_left cause a e
end_left false head t cause a e = finish_left head t (said_by cause a) (said_left cause a e)

-- ---- each mark

module _ (t : ℕ) (T : Trace) (p : IsPlain T) where
  same_plain : (R : Trace) → state_of R ≡ state_of T → context_of R ≡ context_of T → ready_listeners R ≡ ready_listeners T
      → parked_callback R ≡ None → is_broken R ≡ is_broken T → is_aborted R ≡ is_aborted T → (sending_of R).left ≡ None → IsPlain R
  same_plain R s c l k b a u = record {
    here = s ∙ p.here;
    context = c ∙ p.context;
    listeners = l ∙ p.listeners;
    parked = k;
    whole = b ∙ p.whole;
    going = a ∙ p.going;
    unset = u;
  }

  pub mark_plain : (m : Mark) → is_unbuilt_mark m ≡ false → IsPlain ((t, m) ∷ T)
  mark_plain (began r) e = record {
    here = refl;
    context = refl;
    listeners = refl;
    parked = refl;
    whole = p.whole;
    going = refl;
    unset = refl;
  }
  mark_plain (refused status to_head) e = record {
    here = refl;
    context = refl;
    listeners = refl;
    parked = refl;
    whole = p.whole;
    going = refl;
    unset = refl;
  }
  mark_plain (called k part) e =
      same_plain ((t, called k part) ∷ T) (call_stays k (state_of T) e p.here ∙ sym p.here) (call_context t k T (context_of T) e p.here) refl p.parked refl refl p.unset
  mark_plain (started (job.Service n)) e = same_plain ((t, started (job.Service n)) ∷ T) refl refl refl refl refl refl p.unset
  mark_plain (started j) e = cc
  mark_plain (parked side) e = cc
  mark_plain back e = same_plain ((t, back) ∷ T) refl refl refl refl refl refl p.unset
  mark_plain over e =
      same_plain ((t, over) ∷ T) refl refl refl refl refl refl
      (end_left (is_silent T) (answer_of T) t (cause_of T) (answering_of T) p.unset)
  mark_plain (put b) e =
      same_plain ((t, put b) ∷ T) refl refl refl p.parked refl refl
      (push_left (answer_of T) t b (said_by (cause_of T) (answering_of T)) (said_left (cause_of T) (answering_of T) p.unset))
  mark_plain (error_answer status) e = same_plain ((t, error_answer status) ∷ T) refl refl refl p.parked refl refl refl
  mark_plain flushed e = cc
  mark_plain (length_set n) e = cc
  mark_plain answer_reset e = cc
  mark_plain (listened tag) e = cc
  mark_plain (timeout_set ms) e = cc
  mark_plain read_listener_set e = cc
  mark_plain write_listener_set e = cc
  mark_plain (not_ready side) e = cc
  mark_plain aborted e = cc
  mark_plain broken e = cc
  mark_plain m e = same_plain ((t, m) ∷ T) refl refl refl p.parked refl refl p.unset

pub plain_of : (T : Trace) → NothingUnbuilt T → IsPlain T
plain_of [] a = record { here = refl; context = refl; listeners = refl; parked = refl; whole = refl; going = refl; unset = refl }
plain_of ((t, m) ∷ T) a = mark_plain t T (plain_of T a.1) m a.0

-- ---- callbacks

-- no row for a fault, and so no call
pub hears_none : (T : Trace) → IsPlain T → hears_fault T ≡ false
hears_none T p =
    elim (is_open T) as (λ v. (v && is_some (row (state_of T) call.Fault)) ≡ false) [
      | true ↦ ap (λ (s : State). is_some (row s call.Fault)) p.here
      | false ↦ refl
    ]

-- an open request
pub owed_open : (T : Trace) (j : Job) → next_job T ≡ Some j → is_open T ≡ true
owed_open T j e =
    elim (is_open T && is_none (running T)) as (λ v. is_open T && is_none (running T) ≡ v → cond v (job_owed (asking T)) None ≡ Some j → is_open T ≡ true) [
      | true ↦ λ p q. (and_parts (is_open T) (is_none (running T)) p).0
      | false ↦ λ p q. cc
    ] refl e

-- what is asked comes to a service
abbrev pub service_asked : Trace → Option Job
service_asked T = service_in state.Dispatched (is_served T) (part_of T)

first_alone : (o : Option Job) → first_job o None ≡ o
first_alone None = refl
first_alone (Some j) = refl

pub asked_service : (T : Trace) → IsPlain T → job_owed (asking T) ≡ service_asked T
asked_service T p =
    let a = asking T in
    (λ i. first_job (resumed (p.parked i) a)
    (first_job (first_owed (p.context i).owed) (first_job (service_in (p.here i) (is_served T) (part_of T)) (ready_in (p.here i) a))))
    ∙ first_alone (service_asked T)

service_only : (served_now : Bool) (part : ℕ) (j : Job) → service_in state.Dispatched served_now part ≡ Some j → (n : ℕ) × (j ≡ job.Service n)
service_only false part j e = (part, cc)
service_only true part j e = cc

pub service_owed : (T : Trace) (j : Job) → IsPlain T → next_job T ≡ Some j → (n : ℕ) × (j ≡ job.Service n)
service_owed T j p e =
    elim (is_open T && is_none (running T)) as (λ v. cond v (job_owed (asking T)) None ≡ Some j → (n : ℕ) × (j ≡ job.Service n)) [
      | true ↦ λ q. service_only (is_served T) (part_of T) j (sym (asked_service T p) ∙ q)
      | false ↦ λ q. cc
    ] e

-- ---- ends

no_length : (T : Trace) → IsPlain T → ends_short T ≡ false
no_length T p =
    ap (λ (o : Option ℕ). is_short (mode_in (finished_answer T)) o) (end_left false (answer_of T) 0 (cause_of T) (answering_of T) p.unset)

-- the answer of a request whose body was none is replaced
abbrev pub error_before : Option CloseCause → List Mark
error_before cause = if is_bad_request cause then error_answer bad_request ∷ [] else []

-- an answer of which nothing is out is whole, and its end may be the last that the connection has
pub plain_end : (T : Trace) → IsPlain T → is_committed T ≡ false
    → end_marks T ≡ error_before (cause_of T) ++ over ∷ closing_marks_by (cause_of T) (cause_behind false false (ends_closed T))
plain_end T p uncut =
    let going = p.going in
    let whole = no_length T p in
    λ i. (if is_bad_request (cause_of T) then error_marks (uncut i) bad_request else [])
    ++ over ∷ closing_marks_by (cause_of T) (cause_behind (going i) (whole i) (ends_closed T))

-- ---- moves

none_either : {X : Type 0} (v : Bool) (o : Option X) → o ≡ None → (if v then o else None) ≡ None
none_either true o e = e
none_either false o e = refl

pub plain_return : (T : Trace) → IsPlain T → return_move T ≡ None
plain_return T p =
    none_either (is_open T && is_quiet T) (return_marks_in (state_of T) T) (ap (λ (s : State). return_marks_in s T) p.here)
