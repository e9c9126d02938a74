-- The listeners of asynchronous processing, which callbacks are owed to them, and the deadline (Servlet 3.1, section
-- 2.3.3.3).
use Rattle.std.specs.Prelude.{ℕ, ◌+◌, Bool, true, false, List, [], ◌∷◌, ◌++◌, drop, Option, None, Some, ◌==◌, if◌then◌else◌}
use Rattle.cy_event.specs.declared.steps.Job.{Job}
use Rattle.cy_event.specs.declared.steps.Job.TheVariants as job
use Rattle.cy_event.specs.declared.steps.State.{State}
use Rattle.cy_event.specs.declared.steps.State.TheVariants as state
use Rattle.cy_event.specs.declared.table.Row.{Row}
use Rattle.cy_event.specs.declared.table.Row.TheVariants.{On, Wake, Ends}

-- ---- sorts of callbacks

-- a worker that begins it makes the call `Run`, and its end is a call too
abbrev pub makes_calls : Job → Bool
makes_calls (job.Service part) = true
makes_calls (job.Again part) = true
makes_calls job.Readable = true
makes_calls job.AllRead = true
makes_calls job.Writable = true
makes_calls j = false

-- its end is a call; the end of a callback that goes on is that of the one that waited
abbrev pub ends_by_call : Job → Bool
ends_by_call job.Resume = true
ends_by_call j = makes_calls j

-- it was owed to a listener by a change of the state
abbrev pub is_owed_to_listener : Job → Bool
is_owed_to_listener job.ReadError = true
is_owed_to_listener job.WriteError = true
is_owed_to_listener (job.OnTimeout listener tag) = true
is_owed_to_listener (job.OnError listener tag) = true
is_owed_to_listener (job.OnComplete listener tag) = true
is_owed_to_listener j = false

-- ---- asynchronous processing

-- what is kept for a request that is processed asynchronously
pub record Context : Type 0 where
  -- the tags of the listeners, in the order in which they were added
  pub listeners : List ℕ
  -- the callbacks that are owed to them, the first first
  pub owed : List Job
  -- how long processing may take, in milliseconds; 0 for any time
  pub timeout : ℕ
  pub deadline : Option ℕ

-- as a request begins
abbrev pub no_context : Context
no_context = record { listeners = []; owed = []; timeout = 0; deadline = None }

-- asynchronous processing starts: without listeners, with this timeout
abbrev pub restarted : ℕ → Context → Context
restarted timeout c = record c { listeners = []; timeout = timeout }

abbrev pub with_listener : ℕ → Context → Context
with_listener tag c = record c { listeners = c.listeners ++ tag ∷ [] }

abbrev pub with_timeout : ℕ → Context → Context
with_timeout ms c = record c { timeout = ms }

-- the component has returned at this moment, and the time runs
abbrev pub armed : ℕ → Context → Context
armed at c = record c { deadline = if c.timeout == 0 then None else Some (at + c.timeout) }

-- ---- what is owed

-- a callback for each of these tags, of listeners that are numbered from here on
abbrev pub for_each : (ℕ → ℕ → Job) → ℕ → List ℕ → List Job
for_each callback number [] = []
for_each callback number (tag ∷ tags) = callback number tag ∷ for_each callback (number + 1) tags

abbrev pub where_set : Bool → Job → List Job
where_set true j = j ∷ []
where_set false j = []

abbrev pub owing : List Job → Context → Context
owing jobs c = record c { owed = c.owed ++ jobs }

abbrev pub owing_timeouts : Context → Context
owing_timeouts c = owing (for_each job.OnTimeout 0 c.listeners) c

-- the read and the write listener hear of a fault first, where they are set
abbrev pub owing_errors : Bool → Bool → Context → Context
owing_errors read write c =
    owing (where_set read job.ReadError ++ where_set write job.WriteError ++ for_each job.OnError 0 c.listeners) c

abbrev pub owing_completes : Context → Context
owing_completes c = owing (for_each job.OnComplete 0 c.listeners) c

-- the first of them is begun
abbrev pub popped : Context → Context
popped c = record c { owed = drop 1 c.owed }

-- ---- by the state table

-- a request that timed out owes no second callback for the fault
abbrev pub owing_errors_from : State → Bool → Bool → Context → Context
owing_errors_from state.TimingOut read write c = c
owing_errors_from from read write c = owing_errors read write c

-- the time runs from the first return of the component, and not from that of a read or write callback
abbrev pub armed_from : State → ℕ → Context → Context
armed_from state.Starting at c = armed at c
armed_from from at c = c

-- At this moment a request goes from the one state into the other; the timeout is the one that a start sets, and it is
-- told whether a read and a write listener are set.
abbrev pub entered : ℕ → ℕ → Bool → Bool → State → State → Context → Context
entered timeout at read write from state.Starting c = restarted timeout c
entered timeout at read write from state.Started c = armed_from from at c
entered timeout at read write from state.TimingOut c = owing_timeouts c
entered timeout at read write from state.Error c = owing_errors_from from read write c
entered timeout at read write from state.Completing c = owing_completes c
entered timeout at read write from to c = c

-- the same by the row of a call in a state; an end leaves the state, and nothing is owed for it
abbrev pub context_after_row : ℕ → ℕ → Bool → Bool → State → Option Row → Context → Context
context_after_row timeout at read write from None c = c
context_after_row timeout at read write from (Some (On to)) c = entered timeout at read write from to c
context_after_row timeout at read write from (Some (Wake to)) c = entered timeout at read write from to c
context_after_row timeout at read write from (Some Ends) c = c
