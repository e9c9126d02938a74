-- The chart of a request's calls, and which entries are a connection's own. Written down by hand.
use Rattle.std.proofs.Common.{◌≡◌, true, false, List, [], ◌∷◌, ◌++◌, Some, None, codes, refl}
use Rattle.std.specs.Prelude.{⊤, map, reverse}
use Rattle.cy_event.specs.declared.steps.Act.TheVariants as act
use Rattle.cy_event.specs.declared.steps.Call.{Call}
use Rattle.cy_event.specs.declared.steps.Call.TheVariants as call
use Rattle.cy_event.specs.declared.steps.Event.TheVariants as event
use Rattle.cy_event.specs.declared.steps.State.TheVariants as state
use Rattle.cy_event.specs.declared.steps.Step.{Step}
use Rattle.cy_event.specs.declared.steps.Step.TheVariants as step
use Rattle.cy_event.specs.declared.table.ChartItem.TheVariants.{One, Cycles}
use Rattle.cy_event.specs.Bodies.{bodies_on_literals}
use Rattle.cy_event.specs.Charts.{chart_of, put_cycle, written_out}
use Rattle.cy_event.specs.Framings.{framings_on_literals}
use Rattle.cy_event.specs.Heads.{heads_on_literals}
use Rattle.cy_event.specs.Limits.{standard}
use Rattle.cy_event.specs.Table.{has_request_ended, state_after}
use Rattle.cy_event.specs.Targets.{targets_on_literals}
use Rattle.cy_map.specs.declared.rule.Rule.{Rule}
use Rattle.cy_model.specs.Connections.{connections, own_entries}
use Rattle.cy_model.specs.Entries.{after, on_act, on_event, on_run, opening, tick}
use Rattle.cy_model.specs.Reports.{by_number}
use Rattle.cy_model.specs.Settling.{settled}
use Rattle.cy_model.specs.Verdicts.{verdict_of}

-- what these rows unfold
unfoldable entries_on_literals : ⊤
unfolding after settled verdict_of bodies_on_literals framings_on_literals targets_on_literals heads_on_literals
entries_on_literals = tt

-- ---- charts: a Run while waiting and the Return directly behind it are a cycle

abbrev waits : List Call
waits = call.Run ∷ call.Start ∷ call.Return ∷ []

abbrev cycle : List Call
cycle = call.Run ∷ call.Return ∷ []

no_calls : chart_of [] ≡ []
no_calls = refl

-- the service's own Run and Return are none
service_is_no_cycle : chart_of cycle ≡ One call.Run ∷ One call.Return ∷ []
service_is_no_cycle = refl

one_cycle : chart_of (waits ++ cycle) ≡ One call.Run ∷ One call.Start ∷ One call.Return ∷ Cycles 1 ∷ []
one_cycle = refl

three_cycles : chart_of (waits ++ cycle ++ cycle ++ cycle)
    ≡ One call.Run ∷ One call.Start ∷ One call.Return ∷ Cycles 3 ∷ []
three_cycles = refl

-- a Run whose callback hasn't returned yet is none
cycle_under_way : chart_of (waits ++ cycle ++ call.Run ∷ [])
    ≡ One call.Run ∷ One call.Start ∷ One call.Return ∷ Cycles 1 ∷ One call.Run ∷ []
cycle_under_way = refl

-- nor one whose callback dispatches, and a dispatch begins anew
dispatched_out_of_a_callback : chart_of (waits ++ cycle ++ call.Run ∷ call.DispatchOwn ∷ call.Return ∷ cycle)
    ≡ One call.Run ∷ One call.Start ∷ One call.Return ∷ Cycles 1 ∷ One call.Run ∷ One call.DispatchOwn
    ∷ One call.Return
    ∷ One call.Run ∷ One call.Return ∷ []
dispatched_out_of_a_callback = refl

-- runs of cycles that a second start divides stand apart
divided_cycles : chart_of (waits ++ cycle ++ call.DispatchOther ∷ waits ++ cycle ++ cycle)
    ≡ One call.Run ∷ One call.Start ∷ One call.Return ∷ Cycles 1 ∷ One call.DispatchOther ∷ One call.Run
    ∷ One call.Start
    ∷ One call.Return ∷ Cycles 2 ∷ []
divided_cycles = refl

-- the count stands still at 2^64 - 1
greatest_count : put_cycle (Cycles 18446744073709551614 ∷ []) ∷ put_cycle (Cycles 18446744073709551615 ∷ []) ∷ []
    ≡ (Cycles 18446744073709551615 ∷ []) ∷ (Cycles 18446744073709551615 ∷ []) ∷ []
greatest_count = refl

cycles_written_out : written_out (One call.Start ∷ Cycles 2 ∷ One call.Fail ∷ [])
    ≡ call.Start ∷ call.Run ∷ call.Return ∷ call.Run ∷ call.Return ∷ call.Fail ∷ []
cycles_written_out = refl

-- ---- where calls lead, and which end

leads_to : map state_after (waits ∷ (waits ++ cycle) ∷ (waits ++ call.Timeout ∷ [])
    ∷ (waits ++ call.Fault ∷ call.Return ∷ []) ∷ [])
    ≡ state.Started ∷ state.Started ∷ state.TimingOut ∷ state.Completing ∷ []
leads_to = refl

ends_with : map has_request_ended (cycle ∷ (call.Run ∷ call.Fail ∷ []) ∷ waits
    ∷ (waits ++ call.CompleteOther ∷ call.Return ∷ []) ∷ (waits ++ call.CompleteOther ∷ []) ∷ [])
    ≡ true ∷ true ∷ false ∷ true ∷ false ∷ []
ends_with = refl

-- ---- own entries, the newest first

abbrev rules : List Rule
rules = record { pattern = codes "/"; part = 0; can_async = true } ∷ []

-- two connections between ticks of the clock
abbrev steps : List Step
steps =
    step.At 1 ∷ step.Admit 2 ∷ step.Run 1 ∷ step.Admit 1 ∷ step.At 5 ∷ step.On 2 event.In (codes "G") ∷ step.Run 1
    ∷ step.Act 2 (act.Write 1) (codes "b") ∷ step.At 9 ∷ step.On 1 (event.Took 3) [] ∷ step.Run 3 ∷ []

entries_of_1 : own_entries (standard 1) rules (reverse steps) 1
    ≡ Some ((9, on_event (event.Took 3) []) ∷ (9, tick) ∷ (5, on_run) ∷ (5, tick) ∷ (1, opening) ∷ [])
unfolding entries_on_literals
entries_of_1 = refl

entries_of_2 : own_entries (standard 1) rules (reverse steps) 2
    ≡ Some ((9, tick) ∷ (5, on_act (act.Write 1) (codes "b")) ∷ (5, on_event event.In (codes "G")) ∷ (5, tick)
    ∷ (1, opening) ∷ [])
unfolding entries_on_literals
entries_of_2 = refl

no_entries_of_3 : own_entries (standard 1) rules (reverse steps) 3 ≡ None
unfolding entries_on_literals
no_entries_of_3 = refl

-- connections stand in the order of their admission, and in a report by their numbers
in_order : map (λ h. h.number) (connections (standard 1) rules (reverse steps)) ≡ 2 ∷ 1 ∷ []
unfolding entries_on_literals
in_order = refl

by_their_numbers : map (λ h. h.number) (by_number (map (λ n. record { number = n; entries = [] }) (10 ∷ 2 ∷ 7 ∷ 1
    ∷ []))) ≡ 1 ∷ 2 ∷ 7 ∷ 10 ∷ []
by_their_numbers = refl
