-- What is left to show of `push_seat`.
use Rattle.std.proofs.Common.{List, ℕ, ◌++◌, map, ap, ◌∙◌}
use Rattle.std.proofs.lemmas.Result.{on_ok_weaker}
use Rattle.cy_tape.specs.declared.chart.Chart.{Chart}
use Rattle.cy_world.specs.Answered.{seat_parts}
use Rattle.cy_world.specs.Reporting.{items_of}
use Rattle.cy_world.proofs.Charts.{seat_told}
use Rattle.cy_world.proofs.world.report.push_seat.Goals as goal

pub returns : goal.returns
returns c =
    let parts = seat_parts c.args.seat.now in
    let charts = c.deref.result.now in
    on_ok_weaker c.push_lines.result
    (λ appended s T keeps.
    appended
    ∙ ap (λ (u : List ℕ). c.args.text.now.items ++ u)
    (seat_told c.args.number s T parts c.tally-tally.result c.as_slice-written.result.now (map items_of charts) keeps c.tally-tally.ensures
    (c.as_slice-written.ensures ∙ c.written.ensures)
    (ap (λ (cs : List Chart). map items_of cs) c.deref.ensures.value ∙ c.in_ok-charts.ensures.items)))
    c.push_lines.ensures
