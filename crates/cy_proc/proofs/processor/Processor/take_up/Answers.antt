-- What is left to show of `Processor::take_up`.
use Rattle.std.proofs.Common.{◌≡◌, ◌+◌, false, ap, sym, ◌∙◌, subst}
use Rattle.cy_proc.specs.LineChanges.{after_refusal, front_at}
use Rattle.cy_proc.specs.ProcessorChanges.{due_at, line_with}
use Rattle.cy_proc.specs.Processors.{ProcessorParts}
use Rattle.cy_proc.proofs.Openings.{bad_line, found_bounds}
use Rattle.cy_proc.proofs.processor.Processor.take_up.Goals as goal

pub take_up_head-requires-clause-some : goal.take_up_head-requires-clause-some
take_up_head-requires-clause-some c =
    (found_bounds c.self.inside.limits.max_head c.self.inside.limits.max_fields c.args.line.now.unread c.in-Head.length (sym c.in-Head.ensures.front)).0

pub take_up_head-requires-clause-within : goal.take_up_head-requires-clause-within
take_up_head-requires-clause-within c =
    rw (c.read_head.ensures.same)
    (found_bounds c.self.inside.limits.max_head c.self.inside.limits.max_fields c.args.line.now.unread c.in-Head.length (sym c.in-Head.ensures.front)).1

pub returns-in-Bad-clause-line : goal.returns-in-Bad-clause-line
returns-in-Bad-clause-line c =
    subst (λ (p : ProcessorParts). c.refuse.new.line ≡ line_with (due_at p.limits c.args.rules.now c.args.line.now) c.args.line.now) c.self.view_is
    (c.refuse.ensures.line
    ∙ ap (after_refusal 400 false) c.read_head.ensures.same
    ∙ sym (bad_line c.self.inside.limits c.args.rules.now (c.args.line.now.begun + 1) (front_at c.self.inside.limits c.args.line.now) c.args.line.now (sym c.in-Bad.ensures.front)))
