-- What is left to show of `chart_of`.
use Rattle.std.proofs.Common.{◌∷◌, [], ◌++◌, List, take, ap, sym, ◌∙◌}
use Rattle.std.proofs.lemmas.List.{take_more}
use Rattle.std.proofs.lemmas.Option.{get_or_from_slice_get, slice_get_within}
use Rattle.cy_event.specs.declared.table.ChartItem.{ChartItem}
use Rattle.cy_world.proofs.place.chart_of.Goals as goal

pub loop-place-preserved : goal.loop-place-preserved
loop-place-preserved c =
    let items = c.args.slot.now.processor.progress.chart in
    let item = c.chart_item.result in
    let place = c.loop-place.place in
    record {
      drawn = c.push_reserved.ensures.items
          ∙ ap (λ (xs : List ChartItem). xs ++ item ∷ []) c.loop-place.invariant.drawn
          ∙ ap (λ (x : ChartItem). take place items ++ x ∷ []) (sym (get_or_from_slice_get items place item item c.chart_item.ensures))
          ∙ sym (take_more items place item (slice_get_within items place item c.chart_item.ensures));
      room = c.push_reserved.ensures.capacity ∙ c.loop-place.invariant.room;
    }
