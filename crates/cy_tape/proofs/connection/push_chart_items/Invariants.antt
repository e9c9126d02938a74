use Rattle.std.proofs.Common.{◌≡◌, ◌++◌, drop}
use Rattle.std.specs.List.{flat_map}
use Rattle.cy_model.specs.Reports.{chart_item}
use Rattle.cy_tape.proofs.connection.push_chart_items.Given as goal

abbrev pub invariant-loop-item : goal.invariant-loop-item
invariant-loop-item l = l.text.items ++ flat_map chart_item (drop l.item-index l.items) ≡ l.initial.text.items ++ flat_map chart_item l.items
