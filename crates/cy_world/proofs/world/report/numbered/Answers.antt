-- What is left to show of `numbered`.
use Rattle.std.proofs.Common.{◌+◌, refl, ◌∙◌}
use Rattle.cy_tape.specs.declared.chart.Chart.{Chart}
use Rattle.cy_world.proofs.Charts.{copied_more}
use Rattle.cy_world.proofs.world.report.numbered.Goals as goal

pub loop-index-preserved : goal.loop-index-preserved
loop-index-preserved c =
    let before = c.loop-index.invariant in
    let x : Chart = record { request = c.loop-index.index + 1; items = c.of-items.result } in
    let more =
    copied_more c.loop-index.copies.items c.push.new.self.items c.args.charts.now c.loop-index.index x c.index-charts-index.result
    (record { items = before.items; numbers = before.numbers }) c.in_ok-push.ensures.items c.loop-index-test.true
    (c.of-items.ensures ∙ c.in_ok-from_slice.ensures.items ∙ c.as_slice.ensures) c.index-charts-index.is refl in
    record { items = more.items; numbers = more.numbers }
