-- What the clock does to a connection: the first of four rules that applies.
use Rattle.std.specs.Prelude.{ℕ, ◌+◌, Bool, true, false, not, ◌&&◌, nat_le, [], ◌∷◌, Option, Some, None, is_none, is_some, if◌then◌else◌}
use Rattle.cy_event.specs.declared.limits.Limits.{Limits}
use Rattle.cy_event.specs.declared.steps.Call.TheVariants as call
use Rattle.cy_event.specs.declared.steps.CloseCause.TheVariants as cause
use Rattle.cy_event.specs.declared.steps.State.{State}
use Rattle.cy_event.specs.declared.steps.State.TheVariants as state
use Rattle.cy_model.specs.Endings.{fault_marks}
use Rattle.cy_model.specs.Folds.{Parked, cause_of, closing_since, context_of, idle_since, is_open, parked_callback, state_of}
use Rattle.cy_model.specs.Jobs.{asking, is_wait_over}
use Rattle.cy_model.specs.Marks.{called, caused, broken, Trace}
use Rattle.cy_model.specs.Outputs.{is_gone}
use Rattle.cy_model.specs.Settling.{Move, first_move}

-- so long a time has passed since then
abbrev pub has_passed : ℕ → ℕ → ℕ → Bool
has_passed timeout since t = nat_le (since + timeout) t

abbrev pub is_started : State → Bool
is_started state.Started = true
is_started s = false

-- a deadline has come
abbrev pub is_reached : Option ℕ → ℕ → Bool
is_reached None t = false
is_reached (Some deadline) t = nat_le deadline t

-- asynchronous processing took too long (Servlet 3.1, section 2.3.3.3)
abbrev pub timeout_rule : ℕ → Trace → Move
timeout_rule t T =
    if is_open T && is_started (state_of T) && is_reached (context_of T).deadline t then Some (called call.Timeout None ∷ []) else None

-- a callback waits too long for its client
abbrev pub waits_too_long : Limits → ℕ → Option Parked → Trace → Bool
waits_too_long limits t None T = false
waits_too_long limits t (Some p) T = not (is_wait_over p.side (asking T)) && has_passed limits.connection_timeout p.since t

abbrev pub await_rule : Limits → ℕ → Trace → Move
await_rule limits t T =
    if waits_too_long limits t (parked_callback T) T then Some (caused cause.AwaitTimeout ∷ broken ∷ fault_marks T) else None

-- nothing comes for too long
abbrev pub idle_rule : Limits → ℕ → Trace → Move
idle_rule limits t T =
    if not (is_open T) && is_none (cause_of T) && has_passed limits.connection_timeout (idle_since T) t
    then Some (caused cause.IdleTimeout ∷ broken ∷ []) else None

-- the client doesn't take the last bytes for too long
abbrev pub closing_rule : Limits → ℕ → Trace → Move
closing_rule limits t T =
    if not (is_open T) && is_some (cause_of T) && not (is_gone T) && has_passed limits.connection_timeout (closing_since T) t
    then Some (broken ∷ []) else None

abbrev pub tick_move : Limits → ℕ → Trace → Move
tick_move limits t T =
    first_move (timeout_rule t T ∷ await_rule limits t T ∷ idle_rule limits t T ∷ closing_rule limits t T ∷ [])
