-- What is left to show of `Processor::run`.
use Rattle.cy_proc.proofs.TurnParts.{turn_answers}
use Rattle.cy_proc.proofs.processor.Processor.run.Goals as goal

pub returns-clause-answers : goal.returns-clause-answers
returns-clause-answers c = λ T s.
    turn_answers c.begin_job.new.self.limits c.args.at T c.args.line.now c.advance.new.self c.args.self.now c.begin_job.new.self c.begin_job.result c.requires.open s
    c.advance.ensures c.begin_job.ensures.reply c.begin_job.ensures.parts
