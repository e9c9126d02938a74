-- The callback that is owed (Servlet 3.1, sections 2.3.3.3, 3.7 and 5.7).
use Rattle.std.specs.Prelude.{ℕ, Bool, false, not, ◌&&◌, ◌||◌, List, [], ◌∷◌, Option, Some, None, is_some, is_none, if◌then◌else◌}
use Rattle.cy_event.specs.declared.steps.Job.{Job}
use Rattle.cy_event.specs.declared.steps.Job.TheVariants as job
use Rattle.cy_event.specs.declared.steps.State.{State}
use Rattle.cy_event.specs.declared.steps.State.TheVariants as state
use Rattle.cy_event.specs.Answering.{Answering, can_take, is_empty, passes_length}
use Rattle.cy_event.specs.ReadyListeners.{ReadyListeners, next_listener}
use Rattle.cy_model.specs.Marks.{Side, input_side, output_side, Trace}
use Rattle.cy_model.specs.Folds.{Parked, cause_of, context_of, is_open, is_served, parked_callback, part_of, ready_listeners, running, state_of}
use Rattle.cy_model.specs.Inputs.{has_whole_body, waiting}
use Rattle.cy_model.specs.Outputs.{answering_of}

-- ---- readiness

-- content waits
abbrev pub has_content : Trace → Bool
has_content T = not (is_empty (waiting T))

-- a read would not be answered `Again`: content waits, or there is no more of it
abbrev pub is_readable : Trace → Bool
is_readable T = has_content T || has_whole_body T

-- one byte would be taken, whatever length was set
abbrev pub takes_one : Trace → Bool
takes_one T = can_take (answering_of T)

-- a write of one byte would not be answered `Again`: it is taken, or refused since it would pass the length
abbrev pub is_writable_by : Answering → Bool
is_writable_by a = passes_length a.sending 1 || can_take a

abbrev pub is_writable : Trace → Bool
is_writable T = is_writable_by (answering_of T)

-- ---- what the next callback goes by

pub record Asking : Type 0 where
  -- what the callback waits for that is parked, and what is ready
  pub parked : Option Parked
  pub has_cause : Bool
  pub readable : Bool
  pub writable : Bool
  -- the callbacks that are owed to listeners
  pub owed : List Job
  pub state : State
  pub is_served : Bool
  pub part : ℕ
  -- the listeners of readiness, and what they go by
  pub listeners : ReadyListeners
  pub content_waits : Bool
  pub body_is_whole : Bool
  pub takes_one : Bool

abbrev pub asking : Trace → Asking
asking T = record {
  parked = parked_callback T;
  has_cause = is_some (cause_of T);
  readable = is_readable T;
  writable = is_writable T;
  owed = (context_of T).owed;
  state = state_of T;
  is_served = is_served T;
  part = part_of T;
  listeners = ready_listeners T;
  content_waits = has_content T;
  body_is_whole = has_whole_body T;
  takes_one = takes_one T;
}

-- ---- the four rules

-- what a callback waited for has come; a cause to close ends each wait
abbrev pub is_side_ready : Side → Asking → Bool
is_side_ready input_side a = a.readable
is_side_ready output_side a = a.writable

abbrev pub is_wait_over : Side → Asking → Bool
is_wait_over side a = a.has_cause || is_side_ready side a

-- the callback that waited goes on
abbrev pub resumed : Option Parked → Asking → Option Job
resumed None a = None
resumed (Some p) a = if is_wait_over p.side a then Some job.Resume else None

-- the first that is owed to a listener
abbrev pub first_owed : List Job → Option Job
first_owed [] = None
first_owed (j ∷ jobs) = Some j

-- in DISPATCHED the service, once; in DISPATCHING the component that the dispatch named
abbrev pub service_in : State → Bool → ℕ → Option Job
service_in state.Dispatched false part = Some (job.Service part)
service_in state.Dispatching served part = Some (job.Again part)
service_in s served part = None

-- in STARTED a listener of readiness
abbrev pub ready_in : State → Asking → Option Job
ready_in state.Started a = next_listener a.content_waits a.body_is_whole a.takes_one a.listeners
ready_in s a = None

-- the first of four
abbrev pub first_job : Option Job → Option Job → Option Job
first_job None second = second
first_job (Some j) second = Some j

abbrev pub job_owed : Asking → Option Job
job_owed a =
    first_job (resumed a.parked a)
    (first_job (first_owed a.owed) (first_job (service_in a.state a.is_served a.part) (ready_in a.state a)))

-- of an open request, while no callback runs
abbrev pub job_by : Bool → Option Job → Asking → Option Job
job_by is_open running a = if is_open && is_none running then job_owed a else None

abbrev pub next_job : Trace → Option Job
next_job T = job_by (is_open T) (running T) (asking T)
