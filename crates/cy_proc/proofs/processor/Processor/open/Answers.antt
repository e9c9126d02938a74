-- What is left to show of `Processor::open`.
use Rattle.std.proofs.Common.{◌≡◌, ap, ◌∙◌}
use Rattle.cy_proc.specs.LineChanges.{after_rest}
use Rattle.cy_proc.specs.ProcessorChanges.{due_at}
use Rattle.cy_proc.specs.Processors.{ProcessorParts}
use Rattle.cy_proc.proofs.Openings.{open_takes, opened_moment, same_limits}
use Rattle.cy_proc.proofs.Work.{opened_less}
use Rattle.cy_proc.proofs.processor.Processor.open.Goals as goal

rested : (c : goal.After-rest) → c.rest.new.self ≡ after_rest c.args.self.now.limits c.take_up.new.line
rested c =
    c.rest.ensures
    ∙ ap (λ (p : ProcessorParts). after_rest p.limits c.take_up.new.line)
    (c.self.view_is ∙ c.take_up.ensures.request)
    ∙ ap (λ k. after_rest k c.take_up.new.line) (same_limits (due_at c.args.self.now.limits c.args.rules.now c.args.line.now) c.args.self.now)

pub returns-clause-takes : goal.returns-clause-takes
returns-clause-takes c = λ T s.
    open_takes c.args.self.now.limits c.args.rules.now T c.args.line.now c.take_up.new.line c.rest.new.self c.args.self.now c.take_up.new.self
    c.requires.free c.requires.due s c.take_up.ensures.line c.take_up.ensures.request (rested c)

pub returns-clause-moment : goal.returns-clause-moment
returns-clause-moment c =
    opened_moment c.args.self.now.limits c.args.rules.now c.args.line.now c.take_up.new.line c.rest.new.self c.take_up.ensures.line (rested c)

pub returns-clause-less : goal.returns-clause-less
returns-clause-less c =
    opened_less c.args.self.now.limits c.args.rules.now c.args.line.now c.take_up.new.line c.rest.new.self c.requires.due c.take_up.ensures.line (rested c)

pub returns-clause-limits : goal.returns-clause-limits
returns-clause-limits c =
    ap (λ (p : ProcessorParts). p.limits) c.take_up.ensures.request
    ∙ same_limits (due_at c.args.self.now.limits c.args.rules.now c.args.line.now) c.args.self.now
