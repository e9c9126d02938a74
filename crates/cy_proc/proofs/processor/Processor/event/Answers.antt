-- What is left to show of `Processor::event`.
use Rattle.std.proofs.Common.{ap, ◌∙◌, arith}
use Rattle.cy_proc.specs.LineChanges.{after_told, work_of}
use Rattle.cy_proc.specs.Lines.{LineParts}
use Rattle.cy_proc.specs.Processors.{ProcessorParts}
use Rattle.cy_proc.proofs.Lines.{told_moment}
use Rattle.cy_proc.proofs.Work.{told_work}
use Rattle.cy_proc.proofs.TurnParts.{event_answers}
use Rattle.cy_proc.proofs.processor.Processor.event.Goals as goal

pub returns-clause-answers : goal.returns-clause-answers
returns-clause-answers c = λ T s.
    event_answers c.args.self.now.limits c.args.at c.args.event c.args.bytes.now T c.args.line.now c.advance.new.self c.take.new.self c.args.self.now c.take.result c.requires.open s
    c.advance.ensures c.take.ensures.reply
    (c.take.ensures.parts ∙ ap (λ (k : ProcessorParts). after_told k.limits c.args.event c.args.bytes.now c.advance.new.self) c.self.view_is)

pub returns-clause-moment : goal.returns-clause-moment
returns-clause-moment c =
    ap (λ (l : LineParts). l.moment) c.take.ensures.parts
    ∙ told_moment c.self.inside.limits c.args.event c.args.bytes.now c.advance.new.self
    ∙ ap (λ (l : LineParts). l.moment) c.advance.ensures

pub returns-clause-work : goal.returns-clause-work
returns-clause-work c =
    omega (
      arith,
      ap work_of c.take.ensures.parts,
      told_work c.self.inside.limits c.args.event c.args.bytes.now c.advance.new.self,
      ap work_of c.advance.ensures,
    )
