-- How far a request has come in the state table, and what a call does to it. Own.
use Rattle.std.specs.Prelude.{◌≡◌, ◌+◌, ◌-◌, min, Bool, true, false, if◌then◌else◌, Option, Some, None, is_some, List, [], ◌∷◌, ◌++◌, length, slice_get, take}
use Rattle.cy_event.specs.declared.steps.Call.{Call}
use Rattle.cy_event.specs.declared.steps.Call.TheVariants as call
use Rattle.cy_event.specs.declared.steps.Reply.{Reply}
use Rattle.cy_event.specs.declared.steps.Reply.TheVariants as reply
use Rattle.cy_event.specs.declared.steps.State.{State}
use Rattle.cy_event.specs.declared.steps.State.TheVariants as state
use Rattle.cy_event.specs.declared.table.ChartItem.{ChartItem}
use Rattle.cy_event.specs.declared.table.ChartItem.TheVariants.{One, Cycles}
use Rattle.cy_event.specs.declared.table.Row.{Row}
use Rattle.cy_event.specs.declared.table.Row.TheVariants.{On, Wake, Ends}
use Rattle.cy_event.specs.Charts.{chart_of, most_cycles}
use Rattle.cy_event.specs.Table.{row, IsLegal, state_after, has_request_ended}

-- the state, whether the request has ended, and the chart so far
pub record Progress : Type 0 where
  pub state : State
  pub is_ended : Bool
  pub chart : List ChartItem

-- a request begins in DISPATCHED
abbrev pub fresh : Progress
fresh = record { state = state.Dispatched; is_ended = false; chart = [] }

-- ---- what a call is answered

-- the row that a call finds: none once the request has ended
abbrev pub row_at : Progress → Call → Option Row
row_at p k = if p.is_ended then None else row p.state k

abbrev pub answer_by : State → Option Row → Reply
answer_by s None = reply.Illegal s
answer_by s (Some (On t)) = reply.Done
answer_by s (Some (Wake t)) = reply.Wake
answer_by s (Some Ends) = reply.Done

abbrev pub answer_to : Progress → Call → Reply
answer_to p k = answer_by p.state (row_at p k)

-- ---- what a call leaves

abbrev pub last_item : List ChartItem → Option ChartItem
last_item items = slice_get items (length items - 1)

abbrev pub without_last : List ChartItem → List ChartItem
without_last items = take (length items - 1) items

-- one cycle more behind a chart of which this is the last item
abbrev pub with_cycle : Option ChartItem → List ChartItem → List ChartItem
with_cycle (Some (Cycles n)) items = without_last items ++ Cycles (min (n + 1) most_cycles) ∷ []
with_cycle last items = items ++ Cycles 1 ∷ []

-- A Return from READ_WRITE_OP behind a chart of which this is the last item. A Run that stands last was made in
-- STARTED, and is a cycle with it.
abbrev pub with_return : Option ChartItem → List ChartItem → List ChartItem
with_return (Some (One call.Run)) items = with_cycle (last_item (without_last items)) (without_last items)
with_return last items = items ++ One call.Return ∷ []

-- the chart with one more call, which was made in this state
abbrev pub with_call : State → Call → List ChartItem → List ChartItem
with_call state.ReadWriteOp call.Return items = with_return (last_item items) items
with_call s k items = items ++ One k ∷ []

-- a call that is refused changes nothing
abbrev pub progress_after : Option Row → Progress → Call → Progress
progress_after None p k = p
progress_after (Some (On t)) p k = record { state = t; is_ended = false; chart = with_call p.state k p.chart }
progress_after (Some (Wake t)) p k = record { state = t; is_ended = false; chart = with_call p.state k p.chart }
progress_after (Some Ends) p k = record { state = p.state; is_ended = true; chart = with_call p.state k p.chart }

abbrev pub after_call : Progress → Call → Progress
after_call p k = progress_after (row_at p k) p k

-- ---- the calls that were accepted

-- the progress that a list of accepted calls leaves, the first first
abbrev pub progress_of : List Call → Progress
progress_of ks = record { state = state_after ks; is_ended = has_request_ended ks; chart = chart_of ks }

-- it is what a legal list of calls leaves
pub record IsLeftBy (p : Progress) (ks : List Call) : Type 0 where
  pub legal : IsLegal ks
  pub left : p ≡ progress_of ks

-- some legal list of calls leaves it
abbrev pub IsLegalProgress : Progress → Type 0
IsLegalProgress p = (ks : List Call) × IsLeftBy p ks

-- the accepted calls with one more call, which counts where it is accepted
abbrev pub with_accepted : Progress → Call → List Call → List Call
with_accepted p k ks = if is_some (row_at p k) then ks ++ k ∷ [] else ks
