-- What is left to show of `open_chart`.
use Rattle.std.proofs.Common.{◌∷◌, [], ◌++◌, List, take, ap, sym, ◌∙◌}
use Rattle.std.proofs.lemmas.List.{take_more}
use Rattle.std.proofs.lemmas.Option.{get_or_from_slice_get, slice_get_within}
use Rattle.cy_event.specs.declared.table.ChartItem.{ChartItem}
use Rattle.cy_world.proofs.world.report.open_chart.Goals as goal

pub loop-place-preserved : goal.loop-place-preserved
loop-place-preserved c =
    let items = c.args.slot.now.processor.progress.chart in
    let item = c.chart_item.result in
    c.in_ok-push.ensures.items
    ∙ ap (λ (xs : List ChartItem). xs ++ item ∷ []) c.loop-place.invariant
    ∙ ap (λ (x : ChartItem). take c.loop-place.place items ++ x ∷ []) (sym (get_or_from_slice_get items c.loop-place.place item item c.chart_item.ensures))
    ∙ sym (take_more items c.loop-place.place item (slice_get_within items c.loop-place.place item c.chart_item.ensures))
