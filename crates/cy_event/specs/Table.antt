-- The state table: in which state a call is taken, and where it leads. The states have the names of Tomcat's
-- asynchronous processing (Servlet 3.1, section 2.3.3.3); the rows are this connector's own.
use Rattle.std.specs.Prelude.{◌≡◌, ◌||◌, Bool, true, false, Option, Some, None, IsSome, List, [], ◌∷◌}
use Rattle.cy_event.specs.declared.steps.State.{State}
use Rattle.cy_event.specs.declared.steps.State.TheVariants as state
use Rattle.cy_event.specs.declared.steps.Call.{Call}
use Rattle.cy_event.specs.declared.steps.Call.TheVariants as call
use Rattle.cy_event.specs.declared.table.Row.{Row}
use Rattle.cy_event.specs.declared.table.Row.TheVariants.{On, Wake, Ends}

-- ---- the rows, a list for each state

abbrev dispatched_row : Call → Option Row
dispatched_row call.Start = Some (On state.Starting)
dispatched_row call.Fail = Some Ends
dispatched_row call.Run = Some (On state.Dispatched)
dispatched_row call.Return = Some Ends
dispatched_row k = None

abbrev starting_row : Call → Option Row
starting_row call.CompleteOwn = Some (On state.MustComplete)
starting_row call.CompleteOther = Some (On state.CompletePending)
starting_row call.DispatchOwn = Some (On state.MustDispatch)
starting_row call.DispatchOther = Some (On state.DispatchPending)
starting_row call.Fault = Some (On state.MustError)
starting_row call.Fail = Some (On state.Error)
starting_row call.Return = Some (On state.Started)
starting_row k = None

abbrev started_row : Call → Option Row
started_row call.CompleteOther = Some (Wake state.Completing)
started_row call.DispatchOther = Some (Wake state.Dispatching)
started_row call.Timeout = Some (On state.TimingOut)
started_row call.Fault = Some (Wake state.Error)
started_row call.Run = Some (On state.ReadWriteOp)
started_row k = None

abbrev read_write_op_row : Call → Option Row
read_write_op_row call.CompleteOwn = Some (On state.MustComplete)
read_write_op_row call.CompleteOther = Some (On state.CompletePending)
read_write_op_row call.DispatchOwn = Some (On state.MustDispatch)
read_write_op_row call.DispatchOther = Some (On state.DispatchPending)
read_write_op_row call.Fault = Some (On state.MustError)
read_write_op_row call.Fail = Some (On state.Error)
read_write_op_row call.Return = Some (On state.Started)
read_write_op_row k = None

abbrev must_complete_row : Call → Option Row
must_complete_row call.Fail = Some (On state.Completing)
must_complete_row call.Return = Some (On state.Completing)
must_complete_row k = None

abbrev complete_pending_row : Call → Option Row
complete_pending_row call.Fail = Some (On state.Completing)
complete_pending_row call.Return = Some (On state.Completing)
complete_pending_row k = None

abbrev completing_row : Call → Option Row
completing_row call.Return = Some Ends
completing_row k = None

abbrev timing_out_row : Call → Option Row
timing_out_row call.CompleteOwn = Some (On state.Completing)
timing_out_row call.CompleteOther = Some (On state.Completing)
timing_out_row call.DispatchOwn = Some (On state.Dispatching)
timing_out_row call.DispatchOther = Some (On state.Dispatching)
timing_out_row call.Return = Some (On state.Error)
timing_out_row k = None

abbrev must_dispatch_row : Call → Option Row
must_dispatch_row call.Fail = Some (On state.Error)
must_dispatch_row call.Return = Some (On state.Dispatching)
must_dispatch_row k = None

abbrev dispatch_pending_row : Call → Option Row
dispatch_pending_row call.Fail = Some (On state.Error)
dispatch_pending_row call.Return = Some (On state.Dispatching)
dispatch_pending_row k = None

abbrev dispatching_row : Call → Option Row
dispatching_row call.Run = Some (On state.Dispatched)
dispatching_row k = None

abbrev must_error_row : Call → Option Row
must_error_row call.CompleteOwn = Some (On state.MustComplete)
must_error_row call.CompleteOther = Some (On state.MustComplete)
must_error_row call.DispatchOwn = Some (On state.MustDispatch)
must_error_row call.DispatchOther = Some (On state.MustDispatch)
must_error_row call.Fail = Some (On state.Error)
must_error_row call.Return = Some (On state.Error)
must_error_row k = None

abbrev error_row : Call → Option Row
error_row call.CompleteOwn = Some (On state.Completing)
error_row call.CompleteOther = Some (On state.Completing)
error_row call.DispatchOwn = Some (On state.Dispatching)
error_row call.DispatchOther = Some (On state.Dispatching)
error_row call.Return = Some (On state.Completing)
error_row k = None

-- The row of a call in a state: the state that it leads to, also with a wake of the connection's worker, or that the
-- request ends and the state stays. No row: the call is refused.
abbrev pub row : State → Call → Option Row
row state.Dispatched = dispatched_row
row state.Starting = starting_row
row state.Started = started_row
row state.ReadWriteOp = read_write_op_row
row state.MustComplete = must_complete_row
row state.CompletePending = complete_pending_row
row state.Completing = completing_row
row state.TimingOut = timing_out_row
row state.MustDispatch = must_dispatch_row
row state.DispatchPending = dispatch_pending_row
row state.Dispatching = dispatching_row
row state.MustError = must_error_row
row state.Error = error_row

-- the state after a call; a call without a row leaves it
abbrev pub after_row : State → Option Row → State
after_row s None = s
after_row s (Some (On t)) = t
after_row s (Some (Wake t)) = t
after_row s (Some Ends) = s

abbrev pub next_state : State → Call → State
next_state s k = after_row s (row s k)

-- whether the row ends the request
abbrev pub is_end : Option Row → Bool
is_end None = false
is_end (Some (On t)) = false
is_end (Some (Wake t)) = false
is_end (Some Ends) = true

-- A history is legal where each call has a row in the state that those before it leave, and none follows an end.
abbrev pub IsLegalFrom : State → List Call → Type 0
IsLegalFrom s [] = Unit {0}
IsLegalFrom s (k ∷ []) = IsSome (row s k)
IsLegalFrom s (k ∷ j ∷ ks) = IsSome (row s k) × (is_end (row s k) ≡ false) × IsLegalFrom (next_state s k) (j ∷ ks)

-- a request begins in DISPATCHED
abbrev pub IsLegal : List Call → Type 0
IsLegal ks = IsLegalFrom state.Dispatched ks

-- the state that a history leaves
abbrev pub state_from : State → List Call → State
state_from s [] = s
state_from s (k ∷ ks) = state_from (next_state s k) ks

abbrev pub state_after : List Call → State
state_after ks = state_from state.Dispatched ks

-- whether it ends the request
abbrev pub ends_from : State → List Call → Bool
ends_from s [] = false
ends_from s (k ∷ ks) = is_end (row s k) || ends_from (next_state s k) ks

abbrev pub has_request_ended : List Call → Bool
has_request_ended ks = ends_from state.Dispatched ks
