-- The output of a connection: the answer to the last request as it is made, and all that was written.
use Rattle.std.specs.Prelude.{ℕ, ◌+◌, Bool, true, false, not, ◌&&◌, ◌||◌, ◌==◌, List, [], ◌∷◌, ◌++◌, length, take, drop, Option, Some, None, is_some}
use Rattle.cy_event.specs.declared.steps.CloseCause.{CloseCause}
use Rattle.cy_event.specs.AnswerModes.{Asked}
use Rattle.cy_event.specs.Answering.{Answering, Sending, aborted as aborted_sending, after_finish, beginning, closing, cut, emptied, idle, is_committed as is_committed_sending, push_bytes, with_error, with_length}
use Rattle.cy_event.specs.Answers.{Answer, after_put, continue_text, error_answer as error_answer_of, fresh_answer, refusal_text}
use Rattle.cy_event.specs.Heads.{Field}
use Rattle.cy_model.specs.Marks.{began, refused, sent, status_set, field_added, length_set, answer_reset, put, flushed, error_answer, aborted, over, broken, TakenUp, Trace}
use Rattle.cy_model.specs.Folds.{cause_of, is_broken, is_open}
use Rattle.cy_model.specs.Verdicts.{is_head_method}

-- ---- the answer so far, since its last reset or error answer

abbrev pub with_status : ℕ → Answer → Answer
with_status status a = record a { status = status }

abbrev pub with_field : Field → Answer → Answer
with_field field a = record a { fields = a.fields ++ field ∷ [] }

abbrev pub with_set_length : ℕ → Answer → Answer
with_set_length n a = record a { set_length = Some n }

-- its status, fields, length and content, as if nothing of it were sent
abbrev pub answer_of : Trace → Answer
answer_of [] = fresh_answer
answer_of ((t, began r) ∷ T) = fresh_answer
answer_of ((t, refused status to_head) ∷ T) = fresh_answer
answer_of ((t, status_set status) ∷ T) = with_status status (answer_of T)
answer_of ((t, field_added field) ∷ T) = with_field field (answer_of T)
answer_of ((t, length_set n) ∷ T) = with_set_length n (answer_of T)
answer_of ((t, answer_reset) ∷ T) = fresh_answer
answer_of ((t, put b) ∷ T) = after_put b (answer_of T)
answer_of ((t, error_answer status) ∷ T) = error_answer_of status
answer_of ((t, m) ∷ T) = answer_of T

-- it was broken off
abbrev pub is_aborted : Trace → Bool
is_aborted [] = false
is_aborted ((t, began r) ∷ T) = false
is_aborted ((t, refused status to_head) ∷ T) = false
is_aborted ((t, aborted) ∷ T) = true
is_aborted ((t, m) ∷ T) = is_aborted T

-- ---- what is written for it

-- the output that no longer waits, since the socket took it or it was dropped, and the answer with the output that waits
pub record Writing : Type 0 where
  pub past : List ℕ
  pub answering : Answering

abbrev pub nothing_written : Writing
nothing_written = record { past = []; answering = record { sending = idle; output = [] } }

-- with more output
abbrev pub with_output : List ℕ → Writing → Writing
with_output text w = record w { answering = record w.answering { output = w.answering.output ++ text } }

abbrev pub by_sending : (Sending → Sending) → Writing → Writing
by_sending change w = record w { answering = record w.answering { sending = change w.answering.sending } }

abbrev pub by_answering : (Answering → Answering) → Writing → Writing
by_answering change w = record w { answering = change w.answering }

-- so many bytes of the output wait no longer
abbrev pub past_by : ℕ → Writing → Writing
past_by n w = record {
  past = w.past ++ take n w.answering.output;
  answering = record w.answering { output = drop n w.answering.output };
}

-- none of them waits
abbrev pub all_past : Writing → Writing
all_past w = record { past = w.past ++ w.answering.output; answering = record w.answering { output = [] } }

-- a head that goes out where there is a cause says that the connection closes (RFC 9112, section 9.6)
abbrev pub said_by : Option CloseCause → Answering → Answering
said_by None a = a
said_by (Some k) a = record a { sending = closing a.sending }

-- the request that is answered
abbrev pub asked_of : TakenUp → Asked
asked_of r = record { minor = r.head.minor; is_head = is_head_method r.head; keep = r.keep }

-- what a begin adds
abbrev pub begin_text : Bool → List ℕ
begin_text true = continue_text
begin_text false = []

-- the end of a request adds the rest of its answer, unless the connection is broken or the answer was broken off
abbrev pub finished_by : Bool → Answer → ℕ → Answering → Answering
finished_by true head t a = a
finished_by false head t a = after_finish head t a

-- content is put, cut where it has to be; what waits is cut
abbrev pub put_by : Option CloseCause → Answer → ℕ → List ℕ → Answering → Answering
put_by cause head t b a = (push_bytes head t b (said_by cause a)).after

abbrev pub cut_by : Option CloseCause → Answer → ℕ → Answering → Answering
cut_by cause head t a = cut head t (said_by cause a)

abbrev pub end_by : Option CloseCause → Bool → Answer → ℕ → Answering → Answering
end_by cause silent head t a = finished_by silent head t (said_by cause a)

-- nothing more is written at the end of the request
abbrev pub is_silent : Trace → Bool
is_silent T = is_broken T || is_aborted T

abbrev pub writing : Trace → Writing
writing [] = nothing_written
writing ((t, began r) ∷ T) = with_output (begin_text r.go_on) (by_sending (λ s. beginning (asked_of r)) (writing T))
writing ((t, refused status to_head) ∷ T) = with_output (refusal_text status to_head t) (by_sending (λ s. idle) (writing T))
writing ((t, length_set n) ∷ T) = by_sending (with_length n) (writing T)
writing ((t, answer_reset) ∷ T) = by_sending emptied (writing T)
writing ((t, put b) ∷ T) = by_answering (put_by (cause_of T) (answer_of T) t b) (writing T)
writing ((t, flushed) ∷ T) = by_answering (cut_by (cause_of T) (answer_of T) t) (writing T)
writing ((t, error_answer status) ∷ T) = by_sending (with_error status) (writing T)
writing ((t, aborted) ∷ T) = by_sending aborted_sending (writing T)
writing ((t, over) ∷ T) = by_answering (end_by (cause_of T) (is_silent T) (answer_of T) t) (writing T)
writing ((t, sent n) ∷ T) = past_by n (writing T)
writing ((t, broken) ∷ T) = all_past (writing T)
writing ((t, m) ∷ T) = writing T

-- the answer under way, with the output that waits
abbrev pub answering_of : Trace → Answering
answering_of T = (writing T).answering

abbrev pub sending_of : Trace → Sending
sending_of T = (answering_of T).sending

-- the head of the answer is out
abbrev pub is_committed : Trace → Bool
is_committed T = is_committed_sending (sending_of T)

-- ---- all answers

-- all bytes of all answers
abbrev pub output : Trace → List ℕ
output T = (writing T).past ++ (answering_of T).output

-- what waits for the socket
abbrev pub unsent : Trace → List ℕ
unsent T = (answering_of T).output

-- how many bytes the socket took
abbrev pub took : Trace → ℕ
took [] = 0
took ((t, sent n) ∷ T) = took T + n
took ((t, m) ∷ T) = took T

-- there is a cause to close, no request is open, and nothing waits for the socket
abbrev pub is_gone_by : Option CloseCause → Bool → List ℕ → Bool
is_gone_by cause is_open unsent = is_some cause && (not is_open && (length unsent == 0))

abbrev pub is_gone : Trace → Bool
is_gone T = is_gone_by (cause_of T) (is_open T) (unsent T)
