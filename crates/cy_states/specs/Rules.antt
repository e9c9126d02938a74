-- Rules that every cell of the state table keeps, as tests that compute.
use Rattle.std.specs.Prelude.{Bool, true, false, not, ◌&&◌, ◌||◌, is_none}
use Rattle.cy_event.specs.declared.steps.Call.{Call}
use Rattle.cy_event.specs.declared.steps.Call.TheVariants as call
use Rattle.cy_event.specs.declared.steps.State.{State}
use Rattle.cy_event.specs.declared.steps.State.TheVariants as state
use Rattle.cy_event.specs.Table.{row, next_state, is_end}

-- the callback that runs comes back, in peace or not
abbrev pub is_coming_back : Call → Bool
is_coming_back call.Return = true
is_coming_back call.Fail = true
is_coming_back k = false

abbrev pub is_complete : Call → Bool
is_complete call.CompleteOwn = true
is_complete call.CompleteOther = true
is_complete k = false

-- a complete or a dispatch of another thread
abbrev pub is_from_other : Call → Bool
is_from_other call.CompleteOther = true
is_from_other call.DispatchOther = true
is_from_other k = false

-- a callback runs that started asynchronous processing, or that reads or writes for it
abbrev pub is_in_callback : State → Bool
is_in_callback state.Starting = true
is_in_callback state.ReadWriteOp = true
is_in_callback s = false

-- the states of a request that was completed
abbrev pub is_completed : State → Bool
is_completed state.MustComplete = true
is_completed state.CompletePending = true
is_completed state.Completing = true
is_completed s = false

-- the states of a request that another thread completed or dispatched while a callback runs
abbrev pub is_pending : State → Bool
is_pending state.CompletePending = true
is_pending state.DispatchPending = true
is_pending s = false

-- the calls that may end a request: a Return or a Fail in DISPATCHED, and a Return in COMPLETING
abbrev pub may_end : State → Call → Bool
may_end state.Dispatched k = is_coming_back k
may_end state.Completing call.Return = true
may_end s k = false

abbrev pub implies : Bool → Bool → Bool
implies a b = not a || b

-- ---- the rules of a cell

-- only those calls end the request
abbrev pub ends_rightly : State → Call → Bool
ends_rightly s k = implies (is_end (row s k)) (may_end s k)

-- an accepted complete leads to a completed state
abbrev pub completes : State → Call → Bool
completes s k = implies (is_complete k) (is_none (row s k) || is_completed (next_state s k))

-- a completed request takes no call but a Return or a Fail, and stays completed
abbrev pub stays_completed : State → Call → Bool
stays_completed s k = implies (is_completed s) (is_none (row s k) || (is_coming_back k && is_completed (next_state s k)))

-- a complete or dispatch of another thread, while a callback runs, is accepted, ends nothing, and waits for the callback
abbrev pub is_kept : State → Call → Bool
is_kept s k = implies (is_in_callback s && is_from_other k) (not (is_end (row s k)) && is_pending (next_state s k))

-- then nothing is accepted but that the callback comes back, which doesn't end the request
abbrev pub waits_for_callback : State → Call → Bool
waits_for_callback s k = implies (is_pending s) (is_none (row s k) || (is_coming_back k && not (is_end (row s k))))

-- all of them
abbrev pub keeps_rules : State → Call → Bool
keeps_rules s k = ends_rightly s k && completes s k && stays_completed s k && is_kept s k && waits_for_callback s k
