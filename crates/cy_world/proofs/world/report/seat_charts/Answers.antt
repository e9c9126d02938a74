-- What is left to show of `seat_charts`.
use Rattle.std.proofs.Common.{◌+◌, ◌++◌, ◌∷◌, [], Bool, List, Vec, Global, if◌then◌else◌, map, sym, ap, ◌∙◌, subst, arith}
use Rattle.cy_event.specs.declared.table.ChartItem.{ChartItem}
use Rattle.cy_proc.specs.Processors.{ProcessorParts}
use Rattle.cy_tape.specs.Laws.{AreNumberedFrom}
use Rattle.cy_tape.specs.declared.chart.Chart.{Chart}
use Rattle.cy_world.specs.Reporting.{items_of}
use Rattle.cy_world.proofs.Charts.{AreCopies, copied_last}
use Rattle.cy_world.proofs.world.report.seat_charts.Goals as goal
use Rattle.cy_world.proofs.world.report.seat_charts.Goals.{then-is_open+in_ok-items+in_ok-push, else-is_open}

pub returns : goal.returns
returns c =
    let live = c.args.seat.now.place.live in
    let last = live.processor.progress.chart in
    let ended : AreCopies c.in_ok-charts.charts.items live.charts =
    record { items = c.in_ok-charts.ensures.items ∙ c.charts.ensures; numbers = c.in_ok-charts.ensures.numbers } in
    elim c.if-is_open.branch [
      | then-is_open+in_ok-items+in_ok-push w ↦
          let x : Chart = record { request = w.len.result + 1; items = w.in_ok-items.items } in
          let more =
          copied_last c.in_ok-charts.charts.items c.if-is_open.charts.items live.charts x ended
          (ap (λ (v : Vec Chart Global). v.items) w.charts-is ∙ w.in_ok-push.ensures.items) (omega (arith, w.len.ensures)) in
          record {
            items = more.items
                ∙ ap (λ (k : List ChartItem). live.charts ++ k ∷ []) (w.in_ok-items.ensures ∙ ap (λ (q : ProcessorParts). q.progress.chart) w.slot.ensures.processor)
                ∙ ap (λ (v : Bool). if v then live.charts ++ last ∷ [] else live.charts) w.if-is_open.ensures.open;
            numbers = more.numbers;
          }
      | else-is_open w ↦ record {
        items = ap (λ (v : Vec Chart Global). map items_of v.items) w.charts-is
            ∙ ended.items
            ∙ ap (λ (v : Bool). if v then live.charts ++ last ∷ [] else live.charts) w.if-is_open.ensures.open;
        numbers = subst (λ (v : Vec Chart Global). AreNumberedFrom 1 v.items) (sym w.charts-is) ended.numbers;
      }
    ]
