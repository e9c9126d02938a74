-- A chart, its cycles written out, is the list of calls.
use Rattle.std.proofs.Common.{◌≡◌, ℕ, suc, ◌+◌, min, List, [], ◌∷◌, ◌++◌, refl, ap, ◌∙◌, arith}
use Rattle.std.proofs.lemmas.List.Elements.{All-nil, All-head, All-tail, All-cons}
use Rattle.cy_event.specs.declared.steps.State.{State}
use Rattle.cy_event.specs.declared.steps.State.TheVariants as state
use Rattle.cy_event.specs.declared.steps.Call.{Call}
use Rattle.cy_event.specs.declared.steps.Call.TheVariants as call
use Rattle.cy_event.specs.declared.table.ChartItem.{ChartItem}
use Rattle.cy_event.specs.declared.table.ChartItem.TheVariants.{One, Cycles}
use Rattle.cy_event.specs.Charts.{CountsOn, IsExact, chart_from, cycles, most_cycles, put_call, put_cycle, written_out}
use Rattle.cy_event.specs.Table.{next_state}

-- ---- written out

-- where the chart with a cycle in front is exact, so is the chart
put_cycle-exact : (items : List ChartItem) → IsExact (put_cycle items) → IsExact items
put_cycle-exact [] exact = All-nil CountsOn
put_cycle-exact (One k ∷ items) exact = All-tail CountsOn (Cycles 1) (One k ∷ items) exact
put_cycle-exact (Cycles n ∷ items) exact =
    let less = All-head CountsOn (Cycles (min (n + 1) most_cycles)) items exact in
    All-cons CountsOn (Cycles n) items (omega (arith, less)) (All-tail CountsOn (Cycles (min (n + 1) most_cycles)) items exact)

cycles-suc : (n : ℕ) (items : List Call) → cycles (n + 1) ++ items ≡ call.Run ∷ call.Return ∷ (cycles n ++ items)
cycles-suc n items = let e : n + 1 ≡ suc n = omega arith in rw e

written_out-put_cycle : (items : List ChartItem) → IsExact (put_cycle items) → written_out (put_cycle items) ≡ call.Run ∷ call.Return ∷ written_out items
written_out-put_cycle [] exact = refl
written_out-put_cycle (One k ∷ items) exact = refl
written_out-put_cycle (Cycles n ∷ items) exact =
    let less = All-head CountsOn (Cycles (min (n + 1) most_cycles)) items exact in
    let e : min (n + 1) most_cycles ≡ n + 1 = omega (arith, less) in
    rw e (cycles-suc n (written_out items))

written_out-put_call : (s : State) (k : Call) (items : List ChartItem) → IsExact (put_call s k items) → (written_out (put_call s k items) ≡ k ∷ written_out items) × IsExact items
written_out-put_call state.Started call.Run (One call.Return ∷ items) exact =
    (written_out-put_cycle items exact, All-cons CountsOn (One call.Return) items tt (put_cycle-exact items exact))
written_out-put_call s k items exact = (refl, All-tail CountsOn (One k) items exact)

pub charts_are_the_calls : (s : State) (ks : List Call) → IsExact (chart_from s ks) → written_out (chart_from s ks) ≡ ks
charts_are_the_calls s [] exact = refl
charts_are_the_calls s (k ∷ ks) exact =
    let both = written_out-put_call s k (chart_from (next_state s k) ks) exact in
    both.0 ∙ ap (λ (js : List Call). k ∷ js) (charts_are_the_calls (next_state s k) ks both.1)
