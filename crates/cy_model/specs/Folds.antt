-- What the marks say of a connection and of its last request. Each word names the marks at which it changes; every other
-- mark leaves it.
use Rattle.std.specs.Prelude.{ℕ, ◌+◌, Bool, true, false, List, [], ◌∷◌, ◌++◌, Option, Some, None, if◌then◌else◌}
use Rattle.cy_event.specs.declared.steps.Call.{Call}
use Rattle.cy_event.specs.declared.steps.CloseCause.{CloseCause}
use Rattle.cy_event.specs.declared.steps.Job.{Job}
use Rattle.cy_event.specs.declared.steps.Job.TheVariants as job
use Rattle.cy_event.specs.declared.steps.State.{State}
use Rattle.cy_event.specs.declared.steps.State.TheVariants as state
use Rattle.cy_event.specs.Callbacks.{Context, context_after_row, is_owed_to_listener, no_context, popped, with_listener, with_timeout}
use Rattle.cy_event.specs.ReadyListeners.{ReadyListeners, after_begun, input_not_ready, no_listeners, output_not_ready, with_read_listener, with_write_listener}
use Rattle.cy_event.specs.Table.{next_state, row}
use Rattle.cy_model.specs.Marks.{Side, input_side, output_side, opened, ended, came, began, refused, called, started, parked, back, listened, timeout_set, read_listener_set, write_listener_set, not_ready, over, caused, broken, TakenUp, Trace}

-- ---- the connection

-- all bytes that came
abbrev pub bytes_of : Trace → List ℕ
bytes_of [] = []
bytes_of ((t, came b) ∷ T) = bytes_of T ++ b
bytes_of ((t, m) ∷ T) = bytes_of T

-- how many requests were begun
abbrev pub begun_count : Trace → ℕ
begun_count [] = 0
begun_count ((t, began r) ∷ T) = begun_count T + 1
begun_count ((t, m) ∷ T) = begun_count T

-- what was settled as each was taken up, the first first
abbrev pub requests_of : Trace → List TakenUp
requests_of [] = []
requests_of ((t, began r) ∷ T) = requests_of T ++ r ∷ []
requests_of ((t, m) ∷ T) = requests_of T

-- what was settled as the last of them was taken up
abbrev pub last_taken : Trace → Option TakenUp
last_taken [] = None
last_taken ((t, began r) ∷ T) = Some r
last_taken ((t, m) ∷ T) = last_taken T

-- the input has ended
abbrev pub has_ended : Trace → Bool
has_ended [] = false
has_ended ((t, ended) ∷ T) = true
has_ended ((t, m) ∷ T) = has_ended T

-- the first of two causes
abbrev pub earlier : Option CloseCause → CloseCause → Option CloseCause
earlier None k = Some k
earlier (Some first) k = Some first

-- the first cause that was set
abbrev pub cause_of : Trace → Option CloseCause
cause_of [] = None
cause_of ((t, caused k) ∷ T) = earlier (cause_of T) k
cause_of ((t, m) ∷ T) = cause_of T

-- unsent bytes were dropped, and nothing more is written
abbrev pub is_broken : Trace → Bool
is_broken [] = false
is_broken ((t, broken) ∷ T) = true
is_broken ((t, m) ∷ T) = is_broken T

-- ---- moments

-- at a moment, where bytes came
abbrev pub moment_of_bytes : ℕ → List ℕ → ℕ → ℕ
moment_of_bytes t [] before = before
moment_of_bytes t (b ∷ bytes) before = t

-- the mark of idleness: the moment of admission, of the last request's end, or of the last bytes, the latest of them
abbrev pub idle_since : Trace → ℕ
idle_since [] = 0
idle_since ((t, opened) ∷ T) = t
idle_since ((t, came b) ∷ T) = moment_of_bytes t b (idle_since T)
idle_since ((t, over) ∷ T) = t
idle_since ((t, m) ∷ T) = idle_since T

-- at a moment, where there was no cause before
abbrev pub moment_of_cause : ℕ → Option CloseCause → ℕ → ℕ
moment_of_cause t None before = t
moment_of_cause t (Some k) before = before

-- the moment of the cause, and of a request that ended later
abbrev pub closing_since : Trace → ℕ
closing_since [] = 0
closing_since ((t, caused k) ∷ T) = moment_of_cause t (cause_of T) (closing_since T)
closing_since ((t, over) ∷ T) = t
closing_since ((t, m) ∷ T) = closing_since T

-- ---- the last request; before the first, and where a head was refused, these are as at a begin

-- a request is open from its begin to its end
abbrev pub is_open : Trace → Bool
is_open [] = false
is_open ((t, began r) ∷ T) = true
is_open ((t, over) ∷ T) = false
is_open ((t, m) ∷ T) = is_open T

-- the last head was refused
abbrev pub is_refused : Trace → Bool
is_refused [] = false
is_refused ((t, began r) ∷ T) = false
is_refused ((t, refused status to_head) ∷ T) = true
is_refused ((t, m) ∷ T) = is_refused T

-- what was settled as it was taken up
abbrev pub request_of : Trace → Option TakenUp
request_of [] = None
request_of ((t, began r) ∷ T) = Some r
request_of ((t, refused status to_head) ∷ T) = None
request_of ((t, m) ∷ T) = request_of T

-- the component that serves it; a dispatch may name another
abbrev pub part_of : Trace → ℕ
part_of [] = 0
part_of ((t, began r) ∷ T) = r.part
part_of ((t, refused status to_head) ∷ T) = 0
part_of ((t, called k (Some part)) ∷ T) = part
part_of ((t, m) ∷ T) = part_of T

-- `Resume` lets the callback that waits go on; each other one takes its place
abbrev pub begun_by : Job → Option Job → Option Job
begun_by job.Resume (Some before) = Some before
begun_by j before = Some j

-- the callback that was begun last and isn't over, whether it runs or waits
abbrev pub callback_of : Trace → Option Job
callback_of [] = None
callback_of ((t, began r) ∷ T) = None
callback_of ((t, refused status to_head) ∷ T) = None
callback_of ((t, started j) ∷ T) = begun_by j (callback_of T)
callback_of ((t, back) ∷ T) = None
callback_of ((t, over) ∷ T) = None
callback_of ((t, m) ∷ T) = callback_of T

-- the callback that runs
abbrev pub running : Trace → Option Job
running [] = None
running ((t, began r) ∷ T) = None
running ((t, refused status to_head) ∷ T) = None
running ((t, started j) ∷ T) = begun_by j (callback_of T)
running ((t, parked s) ∷ T) = None
running ((t, back) ∷ T) = None
running ((t, over) ∷ T) = None
running ((t, m) ∷ T) = running T

-- a callback that waits: what for, and since when
pub record Parked : Type 0 where
  pub side : Side
  pub since : ℕ

abbrev pub parked_callback : Trace → Option Parked
parked_callback [] = None
parked_callback ((t, began r) ∷ T) = None
parked_callback ((t, refused status to_head) ∷ T) = None
parked_callback ((t, started j) ∷ T) = None
parked_callback ((t, parked s) ∷ T) = Some (record { side = s; since = t })
parked_callback ((t, back) ∷ T) = None
parked_callback ((t, over) ∷ T) = None
parked_callback ((t, m) ∷ T) = parked_callback T

-- whether its service was begun
abbrev pub is_served : Trace → Bool
is_served [] = false
is_served ((t, began r) ∷ T) = false
is_served ((t, refused status to_head) ∷ T) = false
is_served ((t, started (job.Service p)) ∷ T) = true
is_served ((t, m) ∷ T) = is_served T

-- its accepted calls of the state table, the first first
abbrev pub calls : Trace → List Call
calls [] = []
calls ((t, began r) ∷ T) = []
calls ((t, refused status to_head) ∷ T) = []
calls ((t, called k p) ∷ T) = calls T ++ k ∷ []
calls ((t, m) ∷ T) = calls T

-- the state that these calls leave
abbrev pub state_of : Trace → State
state_of [] = state.Dispatched
state_of ((t, began r) ∷ T) = state.Dispatched
state_of ((t, refused status to_head) ∷ T) = state.Dispatched
state_of ((t, called k p) ∷ T) = next_state (state_of T) k
state_of ((t, m) ∷ T) = state_of T

-- the listeners of readiness
abbrev pub ready_listeners : Trace → ReadyListeners
ready_listeners [] = no_listeners
ready_listeners ((t, began r) ∷ T) = no_listeners
ready_listeners ((t, refused status to_head) ∷ T) = no_listeners
ready_listeners ((t, read_listener_set) ∷ T) = with_read_listener (ready_listeners T)
ready_listeners ((t, write_listener_set) ∷ T) = with_write_listener (ready_listeners T)
ready_listeners ((t, not_ready input_side) ∷ T) = input_not_ready (ready_listeners T)
ready_listeners ((t, not_ready output_side) ∷ T) = output_not_ready (ready_listeners T)
ready_listeners ((t, started j) ∷ T) = after_begun j (ready_listeners T)
ready_listeners ((t, m) ∷ T) = ready_listeners T

-- how long asynchronous processing may take where the component says nothing
abbrev pub timeout_by : Option TakenUp → ℕ
timeout_by None = 0
timeout_by (Some r) = r.async_timeout

-- a call of the state table, by its row, at a moment
abbrev pub after_call_at : ℕ → Call → Trace → Context → Context
after_call_at t k T c =
    let l = ready_listeners T in
    context_after_row (timeout_by (request_of T)) t l.read_set l.write_set (state_of T) (row (state_of T) k) c

-- a callback of a listener is no longer owed as it begins
abbrev pub after_started : Bool → Context → Context
after_started true c = popped c
after_started false c = c

-- its listeners, the callbacks owed to them, the timeout and the deadline
abbrev pub context_of : Trace → Context
context_of [] = no_context
context_of ((t, began r) ∷ T) = no_context
context_of ((t, refused status to_head) ∷ T) = no_context
context_of ((t, called k p) ∷ T) = after_call_at t k T (context_of T)
context_of ((t, listened tag) ∷ T) = with_listener tag (context_of T)
context_of ((t, timeout_set ms) ∷ T) = with_timeout ms (context_of T)
context_of ((t, started j) ∷ T) = after_started (is_owed_to_listener j) (context_of T)
context_of ((t, m) ∷ T) = context_of T

-- ---- all requests

-- the charts of the ended requests, in order: the calls of each
abbrev pub ended_charts : Trace → List (List Call)
ended_charts [] = []
ended_charts ((t, over) ∷ T) = ended_charts T ++ calls T ∷ []
ended_charts ((t, m) ∷ T) = ended_charts T

-- the charts of all requests
abbrev pub charts : Trace → List (List Call)
charts T = if is_open T then ended_charts T ++ calls T ∷ [] else ended_charts T
