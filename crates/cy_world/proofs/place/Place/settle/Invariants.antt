-- What the loops of `Place::settle` keep.
use Rattle.std.proofs.Common.{◌≡◌, false}
use Rattle.cy_model.specs.Marks.{Trace}
use Rattle.cy_proc.specs.LineChanges.{work_of}
use Rattle.cy_proc.specs.Processors.{is_over_at}
use Rattle.cy_world.specs.Places.{CountsHeads, HasRoom, Lives}
use Rattle.cy_world.proofs.Lives.{SettlesTo}
use Rattle.cy_world.proofs.place.Place.settle.Given as goal

abbrev pub invariant-loop-self : goal.invariant-loop-self
invariant-loop-self l = record {
  lives : (T : Trace) → Lives T l.fn.self.live → SettlesTo l.fn.rules l.fn.self.live.limits l.fn.self.live.line.moment T l.self.live;
  limits : l.self.live.limits ≡ l.fn.self.live.limits;
  moment : l.self.live.line.moment ≡ l.fn.self.live.line.moment;
  kept : is_over_at l.self.live.processor.stage ≡ false;
  who : l.self.who ≡ l.fn.self.who;
  room : HasRoom 0 l.self;
  counts : CountsHeads l.fn.self l.self;
}

abbrev pub decreases-loop-self : goal.decreases-loop-self
decreases-loop-self l = work_of l.self.live.line
