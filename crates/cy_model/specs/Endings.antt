-- How a request ends, and what a fault of its connection does to it.
use Rattle.std.specs.Prelude.{ℕ, Bool, true, false, ◌&&◌, List, [], ◌∷◌, ◌++◌, Option, Some, None, is_some, if◌then◌else◌}
use Rattle.cy_event.specs.declared.steps.Call.TheVariants as call
use Rattle.cy_event.specs.declared.steps.CloseCause.{CloseCause}
use Rattle.cy_event.specs.declared.steps.CloseCause.TheVariants as cause
use Rattle.cy_event.specs.Answering.{Sending, has_closed, is_short, mode_in}
use Rattle.cy_event.specs.Framings.{bad_request}
use Rattle.cy_event.specs.Table.{row}
use Rattle.cy_model.specs.Marks.{Mark, called, error_answer, aborted, over, caused, Trace}
use Rattle.cy_model.specs.Folds.{cause_of, is_open, state_of}
use Rattle.cy_model.specs.Outputs.{answer_of, answering_of, end_by, is_aborted, is_committed}

-- something failed as the server answered (RFC 9110, section 15.6.1)
abbrev pub server_error : ℕ
server_error = 500

-- an error answer takes the place of one of which nothing is out; one whose head is out is broken off
abbrev pub error_marks : Bool → ℕ → List Mark
error_marks true status = aborted ∷ []
error_marks false status = error_answer status ∷ []

abbrev pub failure_marks : ℕ → Trace → List Mark
failure_marks status T = error_marks (is_committed T) status

-- ---- faults

-- a fault of its connection is told to an open request, where the state table has a row
abbrev pub fault_marks_by : Bool → List Mark
fault_marks_by true = called call.Fault None ∷ []
fault_marks_by false = []

abbrev pub hears_fault : Trace → Bool
hears_fault T = is_open T && is_some (row (state_of T) call.Fault)

abbrev pub fault_marks : Trace → List Mark
fault_marks T = fault_marks_by (hears_fault T)

-- ---- ends

-- the body is bad or cut off: the request was none (RFC 9112, section 8)
abbrev pub is_bad_request : Option CloseCause → Bool
is_bad_request (Some cause.BadBody) = true
is_bad_request (Some cause.InputEnd) = true
is_bad_request k = false

-- the answer to a request whose body was none is 400
abbrev pub last_error_marks : Trace → List Mark
last_error_marks T = if is_bad_request (cause_of T) then failure_marks bad_request T else []

-- the answer as its end leaves it
abbrev pub finished_answer : Trace → Sending
finished_answer T = (end_by (cause_of T) false (answer_of T) 0 (answering_of T)).sending

-- less content was put than the length that was set
abbrev pub ends_short : Trace → Bool
ends_short T = is_short (mode_in (finished_answer T)) (finished_answer T).left

-- the head said that the connection closes
abbrev pub ends_closed : Trace → Bool
ends_closed T = has_closed (finished_answer T)

-- why the connection closes behind an answer: it was broken off, it is short, or it said so
abbrev pub cause_behind : Bool → Bool → Bool → Option CloseCause
cause_behind true short closed = Some cause.FailedAnswer
cause_behind false true closed = Some cause.ShortAnswer
cause_behind false false true = Some cause.LastAnswer
cause_behind false false false = None

abbrev pub cause_marks : Option CloseCause → List Mark
cause_marks None = []
cause_marks (Some k) = caused k ∷ []

-- where there is no cause yet
abbrev pub closing_marks_by : Option CloseCause → Option CloseCause → List Mark
closing_marks_by None behind = cause_marks behind
closing_marks_by (Some k) behind = []

abbrev pub closing_marks : Trace → List Mark
closing_marks T = closing_marks_by (cause_of T) (cause_behind (is_aborted T) (ends_short T) (ends_closed T))

-- a request ends
abbrev pub end_marks : Trace → List Mark
end_marks T = last_error_marks T ++ over ∷ closing_marks T
