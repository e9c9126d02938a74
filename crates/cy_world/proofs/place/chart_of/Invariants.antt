-- What the loop of `chart_of` keeps.
use Rattle.std.proofs.Common.{◌≡◌, take, vec_capacity}
use Rattle.cy_world.proofs.place.chart_of.Given as goal

abbrev pub invariant-loop-place : goal.invariant-loop-place
invariant-loop-place l = record {
  drawn : l.items.items ≡ take l.place l.slot.processor.progress.chart;
  room : vec_capacity l.items ≡ vec_capacity l.fn.items;
}
