-- What the loop of `numbered` keeps.
use Rattle.std.proofs.Common.{◌≡◌, map, take}
use Rattle.cy_tape.specs.Laws.{AreNumberedFrom}
use Rattle.cy_world.specs.Reporting.{items_of}
use Rattle.cy_world.proofs.world.report.numbered.Given as goal

abbrev pub invariant-loop-index : goal.invariant-loop-index
invariant-loop-index l = record {
  items : map items_of l.copies.items ≡ take l.index l.charts;
  numbers : AreNumberedFrom 1 l.copies.items;
}
