-- What is left to show of `Processor::take_up_head`.
use Rattle.std.proofs.Common.{◌≡◌, subst}
use Rattle.cy_proc.specs.ProcessorChanges.{due_of_head, line_with}
use Rattle.cy_proc.specs.Processors.{ProcessorParts}
use Rattle.cy_proc.proofs.Openings.{turned_from, unserved_from}
use Rattle.cy_proc.proofs.processor.Processor.take_up_head.Goals as goal

pub returns-in-TurnedAway-clause-line : goal.returns-in-TurnedAway-clause-line
returns-in-TurnedAway-clause-line c =
    subst (λ (p : ProcessorParts). c.refuse.new.line ≡ line_with (due_of_head p.limits c.args.rules.now c.args.size p.table.head c.args.line.now) c.args.line.now) c.self.view_is
    (turned_from c.self.inside.limits c.args.rules.now c.args.size c.in-TurnedAway.status c.eq-to_head.result c.self.inside.table c.judge.new.table c.args.line.now c.refuse.new.line
    c.in-TurnedAway.ensures.verdict c.in-TurnedAway.ensures.table (cc) c.refuse.ensures.line)

pub returns-in-Unserved-clause-line : goal.returns-in-Unserved-clause-line
returns-in-Unserved-clause-line c =
    subst (λ (p : ProcessorParts). c.end_with_error.new.self ≡ line_with (due_of_head p.limits c.args.rules.now c.args.size p.table.head c.args.line.now) c.args.line.now) c.self.view_is
    (unserved_from c.self.inside.limits c.args.rules.now c.args.size c.minor.result c.in-Unserved.framed c.next_persists-self-inside.result c.self.inside.table c.judge.new.table c.args.line.now c.begin.new.self c.end_with_error.new.self
    c.in-Unserved.ensures.verdict c.in-Unserved.ensures.table c.next_persists-self-inside.ensures c.minor.ensures.value c.begin.ensures c.end_with_error.ensures)
