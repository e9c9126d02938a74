-- The state table cell by cell, and what each cell owes to listeners and does to the deadline, written down by hand.
use Rattle.std.proofs.Common.{◌≡◌, ℕ, Bool, true, false, List, [], ◌∷◌, ◌++◌, Option, Some, None, codes, refl}
use Rattle.std.specs.Prelude.{filter, map}
use Rattle.cy_event.specs.declared.framing.Framing.TheVariants as framing
use Rattle.cy_event.specs.declared.steps.Call.{Call}
use Rattle.cy_event.specs.declared.steps.Call.TheVariants as call
use Rattle.cy_event.specs.declared.steps.Job.{Job}
use Rattle.cy_event.specs.declared.steps.Job.TheVariants as job
use Rattle.cy_event.specs.declared.steps.State.{State}
use Rattle.cy_event.specs.declared.steps.State.TheVariants as state
use Rattle.cy_event.specs.declared.table.Row.{Row}
use Rattle.cy_event.specs.declared.table.Row.TheVariants.{On, Wake, Ends}
use Rattle.cy_event.specs.Callbacks.{Context, context_after_row}
use Rattle.cy_event.specs.Table.{is_end, next_state, row}
use Rattle.cy_model.specs.Folds.{context_of}
use Rattle.cy_model.specs.Marks.{Mark, Trace, began, called, listened, read_listener_set, started, timeout_set}
use Rattle.cy_model.specs.Marks.{write_listener_set}

-- ---- the states and the calls, in the order of the tables below

abbrev all_states : List State
all_states =
    state.Dispatched ∷ state.Starting ∷ state.Started ∷ state.ReadWriteOp ∷ state.MustComplete ∷ state.CompletePending
    ∷ state.Completing ∷ state.TimingOut ∷ state.MustDispatch ∷ state.DispatchPending ∷ state.Dispatching
    ∷ state.MustError ∷ state.Error ∷ []

abbrev all_calls : List Call
all_calls =
    call.Start ∷ call.CompleteOwn ∷ call.CompleteOther ∷ call.DispatchOwn ∷ call.DispatchOther ∷ call.Timeout
    ∷ call.Fault ∷ call.Fail ∷ call.Run ∷ call.Return ∷ []

-- ---- short words for the cells: no row, an end, a state, and a state with a wake

abbrev no : Option Row
no = None

abbrev end : Option Row
end = Some Ends

abbrev dd : Option Row
dd = Some (On state.Dispatched)

abbrev sg : Option Row
sg = Some (On state.Starting)

abbrev sd : Option Row
sd = Some (On state.Started)

abbrev rw : Option Row
rw = Some (On state.ReadWriteOp)

abbrev mc : Option Row
mc = Some (On state.MustComplete)

abbrev cp : Option Row
cp = Some (On state.CompletePending)

abbrev cc : Option Row
cc = Some (On state.Completing)

abbrev tm : Option Row
tm = Some (On state.TimingOut)

abbrev md : Option Row
md = Some (On state.MustDispatch)

abbrev dp : Option Row
dp = Some (On state.DispatchPending)

abbrev dg : Option Row
dg = Some (On state.Dispatching)

abbrev me : Option Row
me = Some (On state.MustError)

abbrev ee : Option Row
ee = Some (On state.Error)

abbrev cc_w : Option Row
cc_w = Some (Wake state.Completing)

abbrev dg_w : Option Row
dg_w = Some (Wake state.Dispatching)

abbrev ee_w : Option Row
ee_w = Some (Wake state.Error)

-- ---- the table

-- Start, CompleteOwn, CompleteOther, DispatchOwn, DispatchOther, Timeout, Fault, Fail, Run, Return
the_state_table : map (λ s. map (row s) all_calls) all_states
    ≡ (sg ∷ no ∷ no ∷ no ∷ no ∷ no ∷ no ∷ end ∷ dd ∷ end ∷ [])
    ∷ (no ∷ mc ∷ cp ∷ md ∷ dp ∷ no ∷ me ∷ ee ∷ no ∷ sd ∷ [])
    ∷ (no ∷ no ∷ cc_w ∷ no ∷ dg_w ∷ tm ∷ ee_w ∷ no ∷ rw ∷ no ∷ [])
    ∷ (no ∷ mc ∷ cp ∷ md ∷ dp ∷ no ∷ me ∷ ee ∷ no ∷ sd ∷ [])
    ∷ (no ∷ no ∷ no ∷ no ∷ no ∷ no ∷ no ∷ cc ∷ no ∷ cc ∷ [])
    ∷ (no ∷ no ∷ no ∷ no ∷ no ∷ no ∷ no ∷ cc ∷ no ∷ cc ∷ [])
    ∷ (no ∷ no ∷ no ∷ no ∷ no ∷ no ∷ no ∷ no ∷ no ∷ end ∷ [])
    ∷ (no ∷ cc ∷ cc ∷ dg ∷ dg ∷ no ∷ no ∷ no ∷ no ∷ ee ∷ [])
    ∷ (no ∷ no ∷ no ∷ no ∷ no ∷ no ∷ no ∷ ee ∷ no ∷ dg ∷ [])
    ∷ (no ∷ no ∷ no ∷ no ∷ no ∷ no ∷ no ∷ ee ∷ no ∷ dg ∷ [])
    ∷ (no ∷ no ∷ no ∷ no ∷ no ∷ no ∷ no ∷ no ∷ dd ∷ no ∷ [])
    ∷ (no ∷ mc ∷ mc ∷ md ∷ md ∷ no ∷ no ∷ ee ∷ no ∷ ee ∷ [])
    ∷ (no ∷ cc ∷ cc ∷ dg ∷ dg ∷ no ∷ no ∷ no ∷ no ∷ cc ∷ [])
    ∷ []
the_state_table = refl

-- ---- what a cell owes to listeners: two with the tags 7 and 8, and a read and a write listener

abbrev two : ℕ → Option ℕ → Context
two timeout deadline = record { listeners = 7 ∷ 8 ∷ []; owed = []; timeout = timeout; deadline = deadline }

-- a call at moment 5, where a start sets 30,000
abbrev cell : Bool → Bool → Context → State → Call → Context
cell read write c s k = context_after_row 30000 5 read write s (row s k) c

abbrev owed_by : Bool → Bool → State → Call → List Job
owed_by read write s k = (cell read write (two 100 None) s k).owed

abbrev nil : List Job
nil = []

abbrev times : List Job
times = job.OnTimeout 0 7 ∷ job.OnTimeout 1 8 ∷ []

abbrev faults : List Job
faults = job.OnError 0 7 ∷ job.OnError 1 8 ∷ []

abbrev all_faults : List Job
all_faults = job.ReadError ∷ job.WriteError ∷ job.OnError 0 7 ∷ job.OnError 1 8 ∷ []

abbrev finals : List Job
finals = job.OnComplete 0 7 ∷ job.OnComplete 1 8 ∷ []

-- Start, CompleteOwn, CompleteOther, DispatchOwn, DispatchOther, Timeout, Fault, Fail, Run, Return
owed_at_each_cell : map (λ s. map (owed_by true true s) all_calls) all_states
    ≡ (nil ∷ nil ∷ nil ∷ nil ∷ nil ∷ nil ∷ nil ∷ nil ∷ nil ∷ nil ∷ [])
    ∷ (nil ∷ nil ∷ nil ∷ nil ∷ nil ∷ nil ∷ nil ∷ all_faults ∷ nil ∷ nil ∷ [])
    ∷ (nil ∷ nil ∷ finals ∷ nil ∷ nil ∷ times ∷ all_faults ∷ nil ∷ nil ∷ nil ∷ [])
    ∷ (nil ∷ nil ∷ nil ∷ nil ∷ nil ∷ nil ∷ nil ∷ all_faults ∷ nil ∷ nil ∷ [])
    ∷ (nil ∷ nil ∷ nil ∷ nil ∷ nil ∷ nil ∷ nil ∷ finals ∷ nil ∷ finals ∷ [])
    ∷ (nil ∷ nil ∷ nil ∷ nil ∷ nil ∷ nil ∷ nil ∷ finals ∷ nil ∷ finals ∷ [])
    ∷ (nil ∷ nil ∷ nil ∷ nil ∷ nil ∷ nil ∷ nil ∷ nil ∷ nil ∷ nil ∷ [])
    ∷ (nil ∷ finals ∷ finals ∷ nil ∷ nil ∷ nil ∷ nil ∷ nil ∷ nil ∷ nil ∷ [])
    ∷ (nil ∷ nil ∷ nil ∷ nil ∷ nil ∷ nil ∷ nil ∷ all_faults ∷ nil ∷ nil ∷ [])
    ∷ (nil ∷ nil ∷ nil ∷ nil ∷ nil ∷ nil ∷ nil ∷ all_faults ∷ nil ∷ nil ∷ [])
    ∷ (nil ∷ nil ∷ nil ∷ nil ∷ nil ∷ nil ∷ nil ∷ nil ∷ nil ∷ nil ∷ [])
    ∷ (nil ∷ nil ∷ nil ∷ nil ∷ nil ∷ nil ∷ nil ∷ all_faults ∷ nil ∷ all_faults ∷ [])
    ∷ (nil ∷ finals ∷ finals ∷ nil ∷ nil ∷ nil ∷ nil ∷ nil ∷ nil ∷ finals ∷ [])
    ∷ []
owed_at_each_cell = refl

-- a read or a write listener hears of a fault only where it is set, and of nothing else
faults_without_read_and_write : map (owed_by false false state.Started) all_calls
    ≡ nil ∷ nil ∷ finals ∷ nil ∷ nil ∷ times ∷ faults ∷ nil ∷ nil ∷ nil ∷ []
faults_without_read_and_write = refl

fault_with_read_alone : owed_by true false state.Starting call.Fail ≡ job.ReadError ∷ faults
fault_with_read_alone = refl

fault_with_write_alone : owed_by false true state.Starting call.Fail ≡ job.WriteError ∷ faults
fault_with_write_alone = refl

-- ---- the deadline of a cell: only the component's return in STARTING sets it

abbrev deadline_by : Context → State → Call → Option ℕ
deadline_by c s k = (cell true true c s k).deadline

abbrev old : Option ℕ
old = Some 50

abbrev new : Option ℕ
new = Some 105

deadline_at_each_cell : map (λ s. map (deadline_by (two 100 old) s) all_calls) all_states
    ≡ (old ∷ old ∷ old ∷ old ∷ old ∷ old ∷ old ∷ old ∷ old ∷ old ∷ [])
    ∷ (old ∷ old ∷ old ∷ old ∷ old ∷ old ∷ old ∷ old ∷ old ∷ new ∷ [])
    ∷ (old ∷ old ∷ old ∷ old ∷ old ∷ old ∷ old ∷ old ∷ old ∷ old ∷ [])
    ∷ (old ∷ old ∷ old ∷ old ∷ old ∷ old ∷ old ∷ old ∷ old ∷ old ∷ [])
    ∷ (old ∷ old ∷ old ∷ old ∷ old ∷ old ∷ old ∷ old ∷ old ∷ old ∷ [])
    ∷ (old ∷ old ∷ old ∷ old ∷ old ∷ old ∷ old ∷ old ∷ old ∷ old ∷ [])
    ∷ (old ∷ old ∷ old ∷ old ∷ old ∷ old ∷ old ∷ old ∷ old ∷ old ∷ [])
    ∷ (old ∷ old ∷ old ∷ old ∷ old ∷ old ∷ old ∷ old ∷ old ∷ old ∷ [])
    ∷ (old ∷ old ∷ old ∷ old ∷ old ∷ old ∷ old ∷ old ∷ old ∷ old ∷ [])
    ∷ (old ∷ old ∷ old ∷ old ∷ old ∷ old ∷ old ∷ old ∷ old ∷ old ∷ [])
    ∷ (old ∷ old ∷ old ∷ old ∷ old ∷ old ∷ old ∷ old ∷ old ∷ old ∷ [])
    ∷ (old ∷ old ∷ old ∷ old ∷ old ∷ old ∷ old ∷ old ∷ old ∷ old ∷ [])
    ∷ (old ∷ old ∷ old ∷ old ∷ old ∷ old ∷ old ∷ old ∷ old ∷ old ∷ [])
    ∷ []
deadline_at_each_cell = refl

no_deadline_without_a_timeout : deadline_by (two 0 old) state.Starting call.Return ≡ None
no_deadline_without_a_timeout = refl

-- ---- listeners and timeout of a cell: only a start clears and sets them

abbrev told_by : State → Call → List ℕ × ℕ
told_by s k = let c = cell true true (two 100 None) s k in (c.listeners, c.timeout)

abbrev kept : List ℕ × ℕ
kept = (7 ∷ 8 ∷ [], 100)

abbrev anew : List ℕ × ℕ
anew = ([], 30000)

listeners_at_each_cell : map (λ s. map (told_by s) all_calls) all_states
    ≡ (anew ∷ kept ∷ kept ∷ kept ∷ kept ∷ kept ∷ kept ∷ kept ∷ kept ∷ kept ∷ [])
    ∷ (kept ∷ kept ∷ kept ∷ kept ∷ kept ∷ kept ∷ kept ∷ kept ∷ kept ∷ kept ∷ [])
    ∷ (kept ∷ kept ∷ kept ∷ kept ∷ kept ∷ kept ∷ kept ∷ kept ∷ kept ∷ kept ∷ [])
    ∷ (kept ∷ kept ∷ kept ∷ kept ∷ kept ∷ kept ∷ kept ∷ kept ∷ kept ∷ kept ∷ [])
    ∷ (kept ∷ kept ∷ kept ∷ kept ∷ kept ∷ kept ∷ kept ∷ kept ∷ kept ∷ kept ∷ [])
    ∷ (kept ∷ kept ∷ kept ∷ kept ∷ kept ∷ kept ∷ kept ∷ kept ∷ kept ∷ kept ∷ [])
    ∷ (kept ∷ kept ∷ kept ∷ kept ∷ kept ∷ kept ∷ kept ∷ kept ∷ kept ∷ kept ∷ [])
    ∷ (kept ∷ kept ∷ kept ∷ kept ∷ kept ∷ kept ∷ kept ∷ kept ∷ kept ∷ kept ∷ [])
    ∷ (kept ∷ kept ∷ kept ∷ kept ∷ kept ∷ kept ∷ kept ∷ kept ∷ kept ∷ kept ∷ [])
    ∷ (kept ∷ kept ∷ kept ∷ kept ∷ kept ∷ kept ∷ kept ∷ kept ∷ kept ∷ kept ∷ [])
    ∷ (kept ∷ kept ∷ kept ∷ kept ∷ kept ∷ kept ∷ kept ∷ kept ∷ kept ∷ kept ∷ [])
    ∷ (kept ∷ kept ∷ kept ∷ kept ∷ kept ∷ kept ∷ kept ∷ kept ∷ kept ∷ kept ∷ [])
    ∷ (kept ∷ kept ∷ kept ∷ kept ∷ kept ∷ kept ∷ kept ∷ kept ∷ kept ∷ kept ∷ [])
    ∷ []
listeners_at_each_cell = refl

-- ---- which cells wake the worker, and which end the request

abbrev wakes : Option Row → Bool
wakes (Some (Wake s)) = true
wakes r = false

three_cells_wake : map (λ s. filter (λ k. wakes (row s k)) all_calls) all_states
    ≡ [] ∷ [] ∷ (call.CompleteOther ∷ call.DispatchOther ∷ call.Fault ∷ [])
    ∷ [] ∷ [] ∷ [] ∷ [] ∷ [] ∷ [] ∷ [] ∷ [] ∷ [] ∷ [] ∷ []
three_cells_wake = refl

three_cells_end : map (λ s. filter (λ k. is_end (row s k)) all_calls) all_states
    ≡ (call.Fail ∷ call.Return ∷ []) ∷ [] ∷ [] ∷ [] ∷ [] ∷ [] ∷ (call.Return ∷ []) ∷ [] ∷ [] ∷ [] ∷ [] ∷ [] ∷ [] ∷ []
three_cells_end = refl

-- an end leaves the state, and so does a call that is refused
ends_and_refusals_stay : map (λ k. next_state state.Completing k) all_calls ≡ map (λ k. state.Completing) all_calls
ends_and_refusals_stay = refl

where_calls_lead_from_started : map (λ k. next_state state.Started k) all_calls
    ≡ state.Started ∷ state.Started ∷ state.Completing ∷ state.Started ∷ state.Dispatching ∷ state.TimingOut
    ∷ state.Error ∷ state.Started ∷ state.ReadWriteOp ∷ state.Started ∷ []
where_calls_lead_from_started = refl

-- ---- the same in traces, the newest mark first

abbrev begin : Mark
begin = began (record {
  place = 0;
  size = 27;
  head = record { method = codes "GET"; target = codes "/"; minor = 1; fields = [] };
  framing = framing.None;
  max_trailer = 8192;
  async_timeout = 30000;
  part = 0;
  can_async = true;
  keep = true;
  go_on = false;
})

abbrev own : Call → Mark
own k = called k None

-- the component starts at 10 and adds the listeners 7 and 8
abbrev starting : Trace
starting = (10, listened 8) ∷ (10, listened 7) ∷ (10, own call.Start) ∷ (0, own call.Run) ∷ (0, begin) ∷ []

abbrev started_with : List (ℕ × Mark) → Trace
started_with marks = (20, own call.Return) ∷ marks ++ starting

listeners_stand_in_their_order : (context_of starting).listeners ≡ 7 ∷ 8 ∷ []
listeners_stand_in_their_order = refl

-- the time runs from the return, by the default where nothing was set
default_deadline : (context_of (started_with [])).deadline ≡ Some 30020
default_deadline = refl

set_deadline : (context_of (started_with ((15, timeout_set 100) ∷ []))).deadline ≡ Some 120
set_deadline = refl

no_deadline : (context_of (started_with ((15, timeout_set 0) ∷ []))).deadline ≡ None
no_deadline = refl

no_deadline_while_starting : (context_of starting).deadline ≡ None
no_deadline_while_starting = refl

-- the return of a read or write callback sets no deadline anew
abbrev read_later : Trace
read_later = (60, own call.Return) ∷ (50, own call.Run) ∷ started_with ((15, timeout_set 100) ∷ [])

deadline_stays : (context_of read_later).deadline ≡ Some 120
deadline_stays = refl

-- the deadline passes: each listener is called, then, since nobody completed, the error and the end
timed_out : (context_of ((120, own call.Timeout) ∷ started_with [])).owed ≡ times
timed_out = refl

first_is_called : (context_of ((121, started (job.OnTimeout 0 7)) ∷ (120, own call.Timeout) ∷ started_with [])).owed
    ≡ job.OnTimeout 1 8 ∷ []
first_is_called = refl

error_owes_nothing_twice : (context_of ((120, own call.Return) ∷ (120, own call.Timeout) ∷ started_with [])).owed
    ≡ times
error_owes_nothing_twice = refl

-- a thread completes while the listeners are still owed the timeout
completes_stand_behind : (context_of ((120, own call.CompleteOther) ∷ (120, own call.Timeout) ∷ started_with [])).owed
    ≡ times ++ finals
completes_stand_behind = refl

-- a fault where both listeners are set, and where the write listener alone is
abbrev both_set : Trace
both_set = started_with ((15, write_listener_set) ∷ (15, read_listener_set) ∷ [])

fault_of_both : (context_of ((30, own call.Fault) ∷ both_set)).owed ≡ all_faults
fault_of_both = refl

fault_of_the_writer : (context_of ((30, own call.Fault) ∷ started_with ((15, write_listener_set) ∷ []))).owed
    ≡ job.WriteError ∷ faults
fault_of_the_writer = refl

-- a fault while the component starts is owed as it returns
fault_while_starting : (context_of ((20, own call.Fault) ∷ starting)).owed ≡ []
fault_while_starting = refl

fault_at_the_return : (context_of ((21, own call.Return) ∷ (20, own call.Fault) ∷ starting)).owed ≡ faults
fault_at_the_return = refl

-- a second start forgets the listeners and the timeout of the first, and what it owed stays owed
abbrev again : Trace
again = (30, own call.Run) ∷ (20, own call.Return) ∷ (20, own call.DispatchOwn) ∷ (15, timeout_set 100) ∷ starting

forgotten : (context_of ((40, own call.Start) ∷ again)).listeners ≡ []
forgotten = refl

timeout_is_the_default_again : (context_of ((50, own call.Return) ∷ (40, own call.Start) ∷ again)).deadline
    ≡ Some 30050
timeout_is_the_default_again = refl

abbrev completed_again : Trace
completed_again =
    (50, own call.Return) ∷ (45, own call.CompleteOwn) ∷ (40, listened 9) ∷ (40, own call.Start) ∷ again

completes_of_the_second : (context_of completed_again).owed ≡ job.OnComplete 0 9 ∷ []
completes_of_the_second = refl
