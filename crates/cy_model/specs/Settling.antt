-- What the container does by itself after a step: the first move that applies is made, until none applies.
use Rattle.std.specs.Prelude.{ℕ, ◌+◌, ◌*◌, ℤ, pos, negsuc, Bool, true, false, ◌&&◌, not, nat_le, nat_lt, List, [], ◌∷◌, ◌++◌, length, Option, Some, None, is_none, option_map, if◌then◌else◌, ◌==◌}
use Rattle.cy_event.specs.declared.limits.Limits.{Limits}
use Rattle.cy_event.specs.declared.steps.CloseCause.{CloseCause}
use Rattle.cy_event.specs.declared.steps.Call.TheVariants as call
use Rattle.cy_event.specs.declared.steps.CloseCause.TheVariants.{BadBody, SwallowLimit, InputEnd, LastAnswer, Refused}
use Rattle.cy_event.specs.declared.steps.Job.{Job}
use Rattle.cy_event.specs.declared.steps.State.{State}
use Rattle.cy_event.specs.declared.steps.State.TheVariants as state
use Rattle.cy_event.specs.Framings.{Framed, bad_request}
use Rattle.cy_event.specs.Heads.{Head, Front, awaited, found, malformed, head_of}
use Rattle.cy_map.specs.declared.rule.Rule.{Rule}
use Rattle.cy_model.specs.Endings.{end_marks, failure_marks, fault_marks, server_error}
use Rattle.cy_model.specs.Inputs.{consumed, has_bad_body, has_whole_body, scan_of, swallowed, unread, used_at_end}
use Rattle.cy_model.specs.Marks.{Mark, TakenUp, began, called, refused, error_answer, over, caused, Trace}
use Rattle.cy_model.specs.Folds.{begun_count, bytes_of, cause_of, context_of, has_ended, is_open, parked_callback, running, state_of}
use Rattle.cy_model.specs.Outputs.{unsent}
use Rattle.cy_model.specs.Repeat.{until_none}
use Rattle.cy_model.specs.Verdicts.{Verdict, turned_away, unserved, served, verdict_of, is_head_method, not_found_status}

-- the trace with marks of one moment, the first mark first
abbrev pub with_marks : ℕ → List Mark → Trace → Trace
with_marks t [] T = T
with_marks t (m ∷ ms) T = with_marks t ms ((t, m) ∷ T)

-- A move is the marks that it makes, where it applies. Of several the first that applies is made.
abbrev pub Move : Type 0
Move = Option (List Mark)

abbrev pub first_move : List Move → Move
first_move [] = None
first_move (None ∷ moves) = first_move moves
first_move (Some ms ∷ moves) = Some ms

abbrev pub after_move : ℕ → Trace → Move → Option Trace
after_move t T move = option_map (λ ms. with_marks t ms T) move

-- ---- a bad body (RFC 9112, section 7.1), and one of which too much is passed over: what a request leaves unread is read
-- to its end or the connection closes (section 9.3), so that it is never taken for the next request; the limit is own

-- the place in the body of the byte that made it bad
abbrev pub bad_place : Trace → Option ℕ
bad_place T = if has_bad_body T then Some (scan_of T).raw else None

-- that of the byte with which more of it was passed over than may be
abbrev pub swallow_place : Limits → Trace → Option ℕ
swallow_place limits T =
    if nat_lt limits.max_swallow (swallowed T) then Some (used_at_end T + limits.max_swallow) else None

-- The byte decides that comes first.
abbrev pub body_cause_by : Option ℕ → Option ℕ → Option CloseCause
body_cause_by None None = None
body_cause_by (Some bad) None = Some BadBody
body_cause_by None (Some swallow) = Some SwallowLimit
body_cause_by (Some bad) (Some swallow) = if nat_le bad swallow then Some BadBody else Some SwallowLimit

abbrev pub body_cause : Limits → Trace → Option CloseCause
body_cause limits T = body_cause_by (bad_place T) (swallow_place limits T)

-- a cause, and the fault that an open request hears of it
abbrev pub cause_and_fault : Trace → CloseCause → List Mark
cause_and_fault T k = caused k ∷ fault_marks T

abbrev pub body_move : Limits → Trace → Move
body_move limits T = if is_none (cause_of T) then option_map (cause_and_fault T) (body_cause limits T) else None

-- ---- input that ends inside a body (RFC 9112, section 8)

abbrev pub input_move : Trace → Move
input_move T =
    if is_none (cause_of T) && (has_ended T && not (has_whole_body T)) then Some (cause_and_fault T InputEnd) else None

-- ---- the container returns

abbrev pub is_empty_jobs : List Job → Bool
is_empty_jobs [] = true
is_empty_jobs (j ∷ jobs) = false

-- no callback runs, waits or is owed to a listener
abbrev pub is_quiet : Trace → Bool
is_quiet T = is_none (running T) && (is_none (parked_callback T) && is_empty_jobs (context_of T).owed)

-- The call `Return` of the container, where the table has it for a request that no callback serves. In ERROR the answer
-- becomes one of 500, in COMPLETING the request ends (Servlet 3.1, section 2.3.3.3).
abbrev pub return_marks_in : State → Trace → Move
return_marks_in state.TimingOut T = Some (called call.Return None ∷ [])
return_marks_in state.Error T = Some (called call.Return None ∷ failure_marks server_error T)
return_marks_in state.Completing T = Some (called call.Return None ∷ end_marks T)
return_marks_in s T = None

abbrev pub return_move : Trace → Move
return_move T = if is_open T && is_quiet T then return_marks_in (state_of T) T else None

-- ---- when a head may be taken up

-- as many bytes may wait for the socket as a further head is taken up
abbrev pub begin_bound : ℕ
begin_bound = 16000

-- no request is open, there is no cause to close, the last body is whole, and few enough bytes wait for the socket
abbrev pub may_begin_by : Bool → Option CloseCause → Bool → List ℕ → Bool
may_begin_by is_open cause is_whole unsent =
    not is_open && (is_none cause && (is_whole && nat_le (length unsent) begin_bound))

abbrev pub may_begin : Trace → Bool
may_begin T = may_begin_by (is_open T) (cause_of T) (has_whole_body T) (unsent T)

-- what stands at the front of the bytes that wait
abbrev pub front_of : Limits → Trace → Front
front_of limits T = head_of limits.max_head limits.max_fields (unread T)

-- ---- taking up a head

-- what the front of the bytes that wait leads to
pub data Due : Type 0 where
  -- nothing yet
  nothing : Due
  -- a refusal with this status, of a HEAD request or not
  refusal : ℕ → Bool → Due
  -- a request begins; no rule serves it
  not_found : TakenUp → Due
  -- a request begins
  request : TakenUp → Due

-- the request of this number is the last that its connection may have
abbrev pub is_last_number : ℤ → ℕ → Bool
is_last_number (pos n) number = n == number
is_last_number (negsuc n) number = false

-- a head of this size at this place is taken up, of a request of this number
abbrev pub taken_up_by : Limits → ℕ → ℕ → ℕ → Head → Framed → ℕ → Bool → TakenUp
taken_up_by limits place number size head f part can_async = record {
  place = place;
  size = size;
  head = head;
  framing = f.body;
  max_trailer = limits.max_trailer;
  async_timeout = limits.async_timeout;
  part = part;
  can_async = can_async;
  keep = f.keep && not (is_last_number limits.max_keep_alive number);
  go_on = f.go_on;
}

abbrev pub without_continue : TakenUp → TakenUp
without_continue r = record r { go_on = false }

abbrev pub due_by_verdict : Limits → ℕ → ℕ → ℕ → Head → Verdict → Due
due_by_verdict limits place number size head (turned_away status) = refusal status (is_head_method head)
due_by_verdict limits place number size head (unserved f) =
    not_found (without_continue (taken_up_by limits place number size head f 0 false))
due_by_verdict limits place number size head (served rule f) =
    request (taken_up_by limits place number size head f rule.part rule.can_async)

-- of the bytes that begin at this place, for a request of this number
abbrev pub due_by_front : Limits → List Rule → ℕ → ℕ → Front → Due
due_by_front limits rules place number awaited = nothing
due_by_front limits rules place number malformed = refusal bad_request false
due_by_front limits rules place number (found size head) = due_by_verdict limits place number size head (verdict_of rules head)

abbrev pub due_of : Limits → List Rule → Trace → Due
due_of limits rules T = due_by_front limits rules (consumed T) (begun_count T + 1) (front_of limits T)

-- The marks of what is due. A request that no rule serves is answered and ends at once: its answer is short of nothing,
-- and the last one where it isn't to be kept.
abbrev pub last_answer_marks : Bool → List Mark
last_answer_marks true = []
last_answer_marks false = caused LastAnswer ∷ []

abbrev pub due_move : Due → Move
due_move nothing = None
due_move (refusal status to_head) = Some (refused status to_head ∷ caused Refused ∷ [])
due_move (not_found r) = Some (began r ∷ error_answer not_found_status ∷ over ∷ last_answer_marks r.keep)
due_move (request r) = Some (began r ∷ [])

abbrev pub head_move : Limits → List Rule → Trace → Move
head_move limits rules T = if may_begin T then due_move (due_of limits rules T) else None

-- ---- the end of the input

abbrev pub is_awaited : Front → Bool
is_awaited awaited = true
is_awaited (found size head) = false
is_awaited malformed = false

-- no further head can come
abbrev pub end_move : Limits → Trace → Move
end_move limits T =
    if may_begin T && (has_ended T && is_awaited (front_of limits T)) then Some (caused InputEnd ∷ []) else None

-- ---- the moves

-- all moves but taking up a head, in their order
abbrev pub quiet_moves : Limits → Trace → List Move
quiet_moves limits T = body_move limits T ∷ input_move T ∷ return_move T ∷ end_move limits T ∷ []

abbrev pub next_move : Limits → List Rule → Trace → Move
next_move limits rules T = first_move (quiet_moves limits T ++ head_move limits rules T ∷ [])

-- one move, made at a moment
abbrev pub quiet_step : Limits → ℕ → Trace → Option Trace
quiet_step limits t T = after_move t T (first_move (quiet_moves limits T))

abbrev pub settle_step : Limits → List Rule → ℕ → Trace → Option Trace
settle_step limits rules t T = after_move t T (next_move limits rules T)

-- as many moves as may be wanted: a few for each byte that came, since each head takes one at least
abbrev pub enough_moves : Trace → ℕ
enough_moves T = 16 * (length (bytes_of T) + 1)

-- ---- the words

-- all moves but taking up a head, until none applies
unfoldable pub rested : Limits → ℕ → Trace → Trace
rested limits t T = until_none (quiet_step limits t) (enough_moves T) T

-- a due head is taken up; no move where none is due
abbrev pub taken_up : Limits → List Rule → ℕ → Trace → Option Trace
taken_up limits rules t T = after_move t T (head_move limits rules T)

-- all moves, until none applies
unfoldable pub settled : Limits → List Rule → ℕ → Trace → Trace
settled limits rules t T = until_none (settle_step limits rules t) (enough_moves T) T

-- The same in two words: rested; then, while a head is due, taken up and rested again.
unfoldable pub rested_and_taken_up : Limits → List Rule → ℕ → Trace → Trace
rested_and_taken_up limits rules t T =
    until_none (λ S. option_map (rested limits t) (taken_up limits rules t S)) (enough_moves T) (rested limits t T)
