-- What is left to show of `Line::event`.
use Rattle.cy_proc.proofs.Lines.{told_from}
use Rattle.cy_proc.proofs.line.Line.event.Goals as goal

pub returns-clause-answers : goal.returns-clause-answers
returns-clause-answers c = λ T s.
    told_from c.args.limits.now c.args.at c.args.event c.args.bytes.now T c.args.self.now c.advance.new.self c.take.new.self c.take.result s
    c.advance.ensures c.take.ensures.reply c.take.ensures.parts
