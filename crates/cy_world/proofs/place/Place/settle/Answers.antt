-- What is left to show of `Place::settle`.
use Rattle.std.proofs.Common.{◌&&◌, not, ap, sym, ◌∙◌}
use Rattle.cy_event.specs.declared.limits.Limits.{Limits}
use Rattle.cy_proc.specs.LineChanges.{is_due}
use Rattle.cy_proc.specs.Processors.{ProcessorParts, is_open_at, is_over_at}
use Rattle.cy_world.proofs.Lives.{next_lives, rest_settles}
use Rattle.cy_world.proofs.Visits.{counts_then}
use Rattle.cy_world.proofs.place.Place.settle.Goals as goal

pub loop-self-preserved : goal.loop-self-preserved
loop-self-preserved c = record {
  lives = λ T s.
      next_lives c.args.rules.now c.args.self.now.live.limits c.args.self.now.live.line.moment T c.loop-self.self.live c.is_due.new.self.live c.take_up.new.self.live
      c.loop-self.invariant.limits c.loop-self.invariant.moment (c.loop-self.invariant.lives T s) c.is_due.ensures.rests c.is_due.ensures.limits c.is_due.ensures.line.moment c.take_up.ensures.takes;
  limits = c.take_up.ensures.keeps.limits ∙ c.is_due.ensures.limits ∙ c.loop-self.invariant.limits;
  moment = c.take_up.ensures.keeps.moment ∙ c.is_due.ensures.line.moment ∙ c.loop-self.invariant.moment;
  kept = c.take_up.ensures.keeps.kept (ap (λ (q : ProcessorParts). is_over_at q.stage) c.is_due.ensures.processor ∙ c.loop-self.invariant.kept);
  who = c.take_up.ensures.who ∙ c.is_due.ensures.who ∙ c.loop-self.invariant.who;
  room = c.take_up.ensures.room;
  counts = counts_then c.args.self.now c.is_due.new.self c.take_up.new.self (counts_then c.args.self.now c.loop-self.self c.is_due.new.self c.loop-self.invariant.counts c.is_due.ensures.counts) c.take_up.ensures.counts;
}

pub returns-clause-settles : goal.returns-clause-settles
returns-clause-settles c = λ T s.
    rest_settles c.args.rules.now c.args.self.now.live.limits c.args.self.now.live.line.moment T c.loop-self.self.live c.is_due.new.self.live
    c.loop-self.invariant.limits c.loop-self.invariant.moment (c.loop-self.invariant.lives T s) c.is_due.ensures.rests
    (ap (λ (k : Limits). not (is_open_at c.is_due.new.self.live.processor.stage) && is_due k c.is_due.new.self.live.line) (sym c.loop-self.invariant.limits) ∙ sym c.is_due.ensures.due ∙ c.loop-self-test.false)

pub returns-clause-counts : goal.returns-clause-counts
returns-clause-counts c = counts_then c.args.self.now c.loop-self.self c.is_due.new.self c.loop-self.invariant.counts c.is_due.ensures.counts
