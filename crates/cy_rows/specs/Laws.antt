-- What each mark changes, of all that is kept of a trace: what is named here and nothing else; and what follows of the
-- output, and of a request that no rule serves. Each is the contract of a public function without a body.
use Rattle.std.specs.Prelude.{◌≡◌, ◌≤◌, ℕ, ◌+◌, Bool, true, false, List, [], ◌∷◌, ◌++◌, length, drop, Some, None}
use Rattle.cy_event.specs.declared.steps.Call.{Call}
use Rattle.cy_event.specs.declared.steps.CloseCause.{CloseCause}
use Rattle.cy_event.specs.declared.steps.Job.{Job}
use Rattle.cy_event.specs.declared.steps.Job.TheVariants as job
use Rattle.cy_event.specs.declared.steps.State.TheVariants as state
use Rattle.cy_event.specs.Answering.{aborted as aborted_sending, emptied, with_error, with_length}
use Rattle.cy_event.specs.Answers.{after_put, error_answer as error_answer_of, fresh_answer}
use Rattle.cy_event.specs.Callbacks.{is_owed_to_listener, no_context, with_listener, with_timeout}
use Rattle.cy_event.specs.Heads.{Field}
use Rattle.cy_event.specs.ReadyListeners.{after_begun, input_not_ready, no_listeners, output_not_ready, with_read_listener, with_write_listener}
use Rattle.cy_event.specs.Table.{next_state}
use Rattle.cy_model.specs.Endings.{end_marks}
use Rattle.cy_model.specs.Folds.{after_call_at, after_started, begun_by, callback_of, calls, earlier, cause_of, closing_since, idle_since, is_broken, moment_of_bytes, moment_of_cause}
use Rattle.cy_model.specs.Inputs.{used}
use Rattle.cy_model.specs.Marks.{Mark, Side, TakenUp, Trace, input_side, output_side, opened, ended, came, sent, began, refused, called, started, parked, back, given, end_given, listened, timeout_set, read_listener_set, write_listener_set, not_ready, status_set, field_added, length_set, answer_reset, put, flushed, nothing_to_flush, error_answer, aborted, over, caused, broken}
use Rattle.cy_model.specs.Outputs.{all_past, answer_of, by_sending, output, past_by, took, unsent, with_field, with_set_length, with_status, writing}
use Rattle.cy_model.specs.Settling.{due_move, not_found}
use Rattle.cy_rows.specs.Kept.{Kept, kept}

-- the record after a mark
abbrev pub kept_with : ℕ → Mark → Trace → Kept
kept_with t m T = kept ((t, m) ∷ T)

-- with the fields of a request as they are at a begin
abbrev pub begun_anew : Kept → Kept
begun_anew k = record k {
  part = 0;
  callback = None;
  running = None;
  parked = None;
  is_served = false;
  calls = [];
  state = state.Dispatched;
  listeners = no_listeners;
  context = no_context;
  answer = fresh_answer;
  is_aborted = false;
}

-- the connection: what the socket told, and why it closes
pub record ConnectionMarks : Type 0 where
  pub admission : (t : ℕ) (T : Trace) → kept_with t opened T ≡ record (kept T) { idle_since = t }
  pub input_end : (t : ℕ) (T : Trace) → kept_with t ended T ≡ record (kept T) { has_ended = true }
  pub bytes : (t : ℕ) (b : List ℕ) (T : Trace) → kept_with t (came b) T
      ≡ record (kept T) { bytes = (kept T).bytes ++ b; idle_since = moment_of_bytes t b (idle_since T) }
  pub taking : (t n : ℕ) (T : Trace) → kept_with t (sent n) T
      ≡ record (kept T) { took = (kept T).took + n; writing = past_by n (writing T) }
  pub cause : (t : ℕ) (k : CloseCause) (T : Trace) → kept_with t (caused k) T
      ≡ record (kept T) { cause = earlier (cause_of T) k; closing_since = moment_of_cause t (cause_of T) (closing_since T) }
  pub break : (t : ℕ) (T : Trace) → kept_with t broken T
      ≡ record (kept T) { is_broken = true; writing = all_past (writing T) }

-- how a request begins and ends, and a refused head
pub record RequestMarks : Type 0 where
  pub begin : (t : ℕ) (r : TakenUp) (T : Trace) → kept_with t (began r) T
      ≡ record (begun_anew (kept T)) {
        begun = (kept T).begun + 1;
        requests = (kept T).requests ++ r ∷ [];
        last = Some r;
        is_open = true;
        is_refused = false;
        request = Some r;
        part = r.part;
        given = 0;
        is_end_told = false;
        used_at_end = 0;
        writing = writing ((t, began r) ∷ T);
      }
  pub refusal : (t status : ℕ) (to_head : Bool) (T : Trace) → kept_with t (refused status to_head) T
      ≡ record (begun_anew (kept T)) { is_refused = true; request = None; writing = writing ((t, refused status to_head) ∷ T) }
  pub end : (t : ℕ) (T : Trace) → kept_with t over T
      ≡ record (kept T) {
        idle_since = t;
        closing_since = t;
        ended_charts = (kept T).ended_charts ++ calls T ∷ [];
        writing = writing ((t, over) ∷ T);
        is_open = false;
        callback = None;
        running = None;
        parked = None;
        used_at_end = used T;
      }

-- calls of the state table, and callbacks; a service is told apart, since a request is served once
abbrev pub is_service : Job → Bool
is_service (job.Service part) = true
is_service j = false

pub record CallbackMarks : Type 0 where
  pub call : (t : ℕ) (k : Call) (T : Trace) → kept_with t (called k None) T
      ≡ record (kept T) {
        calls = calls T ++ k ∷ [];
        state = next_state (kept T).state k;
        context = after_call_at t k T (kept T).context;
      }
  pub dispatch : (t part : ℕ) (k : Call) (T : Trace) → kept_with t (called k (Some part)) T
      ≡ record (kept T) {
        part = part;
        calls = calls T ++ k ∷ [];
        state = next_state (kept T).state k;
        context = after_call_at t k T (kept T).context;
      }
  pub service : (t part : ℕ) (T : Trace) → kept_with t (started (job.Service part)) T
      ≡ record (kept T) {
        callback = Some (job.Service part);
        running = Some (job.Service part);
        parked = None;
        is_served = true;
      }
  pub callback : (t : ℕ) (j : Job) (T : Trace) → is_service j ≡ false → kept_with t (started j) T
      ≡ record (kept T) {
        callback = begun_by j (callback_of T);
        running = begun_by j (callback_of T);
        parked = None;
        listeners = after_begun j (kept T).listeners;
        context = after_started (is_owed_to_listener j) (kept T).context;
      }
  pub wait : (t : ℕ) (s : Side) (T : Trace) → kept_with t (parked s) T
      ≡ record (kept T) { running = None; parked = Some (record { side = s; since = t }) }
  pub callback_end : (t : ℕ) (T : Trace) → kept_with t back T
      ≡ record (kept T) { callback = None; running = None; parked = None }

-- what is read, and who hears of what
pub record ListenerMarks : Type 0 where
  pub content : (t n : ℕ) (T : Trace) → kept_with t (given n) T ≡ record (kept T) { given = (kept T).given + n }
  pub content_end : (t : ℕ) (T : Trace) → kept_with t end_given T ≡ record (kept T) { is_end_told = true }
  pub listener : (t tag : ℕ) (T : Trace) → kept_with t (listened tag) T
      ≡ record (kept T) { context = with_listener tag (kept T).context }
  pub timeout : (t ms : ℕ) (T : Trace) → kept_with t (timeout_set ms) T
      ≡ record (kept T) { context = with_timeout ms (kept T).context }
  pub read_listener : (t : ℕ) (T : Trace) → kept_with t read_listener_set T
      ≡ record (kept T) { listeners = with_read_listener (kept T).listeners }
  pub write_listener : (t : ℕ) (T : Trace) → kept_with t write_listener_set T
      ≡ record (kept T) { listeners = with_write_listener (kept T).listeners }
  pub no_input : (t : ℕ) (T : Trace) → kept_with t (not_ready input_side) T
      ≡ record (kept T) { listeners = input_not_ready (kept T).listeners }
  pub no_output : (t : ℕ) (T : Trace) → kept_with t (not_ready output_side) T
      ≡ record (kept T) { listeners = output_not_ready (kept T).listeners }

-- the answer
pub record AnswerMarks : Type 0 where
  pub status : (t n : ℕ) (T : Trace) → kept_with t (status_set n) T
      ≡ record (kept T) { answer = with_status n (answer_of T) }
  pub field : (t : ℕ) (f : Field) (T : Trace) → kept_with t (field_added f) T
      ≡ record (kept T) { answer = with_field f (answer_of T) }
  pub length : (t n : ℕ) (T : Trace) → kept_with t (length_set n) T
      ≡ record (kept T) { answer = with_set_length n (answer_of T); writing = by_sending (with_length n) (writing T) }
  pub reset : (t : ℕ) (T : Trace) → kept_with t answer_reset T
      ≡ record (kept T) { answer = fresh_answer; writing = by_sending emptied (writing T) }
  pub content : (t : ℕ) (b : List ℕ) (T : Trace) → kept_with t (put b) T
      ≡ record (kept T) { answer = after_put b (answer_of T); writing = writing ((t, put b) ∷ T) }
  pub flush : (t : ℕ) (T : Trace) → kept_with t flushed T ≡ record (kept T) { writing = writing ((t, flushed) ∷ T) }
  pub vain_flush : (t : ℕ) (T : Trace) → kept_with t nothing_to_flush T ≡ kept T
  pub error : (t n : ℕ) (T : Trace) → kept_with t (error_answer n) T
      ≡ record (kept T) { answer = error_answer_of n; writing = by_sending (with_error n) (writing T) }
  pub break_off : (t : ℕ) (T : Trace) → kept_with t aborted T
      ≡ record (kept T) { is_aborted = true; writing = by_sending aborted_sending (writing T) }

-- ---- output

-- the socket takes no more than waits for it
abbrev pub SendsFit : Trace → Type 0
SendsFit [] = Unit {0}
SendsFit ((t, sent n) ∷ T) = (n ≤ length (unsent T)) × SendsFit T
SendsFit ((t, m) ∷ T) = SendsFit T

-- what waits is the output without the bytes that the socket took, until the connection breaks; then nothing waits
pub record OutputWaits (T : Trace) : Type 0 where
  pub rest : is_broken T ≡ false → unsent T ≡ drop (took T) (output T)
  pub dropped : (t : ℕ) → unsent ((t, broken) ∷ T) ≡ []

abbrev pub OutputIsSentInOrder : Type 0
OutputIsSentInOrder = (T : Trace) → SendsFit T → OutputWaits T

-- ---- ends

-- a request that no rule serves is answered 404 and ends as any other does
abbrev pub NotFoundEndsAsAny : Type 0
NotFoundEndsAsAny =
    (t : ℕ) (r : TakenUp) (T : Trace) → cause_of T ≡ None
    → due_move (not_found r)
    ≡ Some (began r ∷ error_answer 404 ∷ end_marks ((t, error_answer 404) ∷ (t, began r) ∷ T))
