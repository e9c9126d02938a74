-- The chart of a request: its accepted calls, with cycles counted. A cycle is a Run in STARTED that is directly
-- followed by a Return, which comes from READ_WRITE_OP. Own.
use Rattle.std.specs.Prelude.{ℕ, zero, suc, ◌+◌, ◌-◌, ◌^◌, ◌<◌, min, List, [], ◌∷◌, ◌++◌, All}
use Rattle.cy_event.specs.declared.steps.State.{State}
use Rattle.cy_event.specs.declared.steps.State.TheVariants as state
use Rattle.cy_event.specs.declared.steps.Call.{Call}
use Rattle.cy_event.specs.declared.steps.Call.TheVariants as call
use Rattle.cy_event.specs.declared.table.ChartItem.{ChartItem}
use Rattle.cy_event.specs.declared.table.ChartItem.TheVariants.{One, Cycles}
use Rattle.cy_event.specs.Table.{next_state}

-- where the count of cycles stands still
abbrev pub most_cycles : ℕ
most_cycles = 2 ^ 64 - 1

-- a cycle in front of a chart, counted with those that the chart begins with
abbrev pub put_cycle : List ChartItem → List ChartItem
put_cycle (Cycles n ∷ items) = Cycles (min (n + 1) most_cycles) ∷ items
put_cycle items = Cycles 1 ∷ items

-- a call in this state, in front of the chart of the calls after it
abbrev pub put_call : State → Call → List ChartItem → List ChartItem
put_call state.Started call.Run (One call.Return ∷ items) = put_cycle items
put_call s k items = One k ∷ items

abbrev pub chart_from : State → List Call → List ChartItem
chart_from s [] = []
chart_from s (k ∷ ks) = put_call s k (chart_from (next_state s k) ks)

-- a request begins in DISPATCHED
abbrev pub chart_of : List Call → List ChartItem
chart_of ks = chart_from state.Dispatched ks

-- ---- the calls of a chart

-- so many cycles, written out
abbrev pub cycles : ℕ → List Call
cycles zero = []
cycles (suc n) = call.Run ∷ call.Return ∷ cycles n

abbrev pub written_out : List ChartItem → List Call
written_out [] = []
written_out (One k ∷ items) = k ∷ written_out items
written_out (Cycles n ∷ items) = cycles n ++ written_out items

-- no count of cycles stands still yet
abbrev pub CountsOn : ChartItem → Type 0
CountsOn (One k) = Unit {0}
CountsOn (Cycles n) = n < most_cycles

abbrev pub IsExact : List ChartItem → Type 0
IsExact items = All CountsOn items
