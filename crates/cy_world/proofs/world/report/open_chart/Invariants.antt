-- What the loop of `open_chart` keeps.
use Rattle.std.proofs.Common.{◌≡◌, take}
use Rattle.cy_world.proofs.world.report.open_chart.Given as goal

abbrev pub invariant-loop-place : goal.invariant-loop-place
invariant-loop-place l = l.items.items ≡ take l.place l.slot.processor.progress.chart
