-- What is left to show of `Processor::next_job`.
use Rattle.std.proofs.Common.{◌∙◌}
use Rattle.cy_proc.proofs.Lines.{plainly}
use Rattle.cy_proc.proofs.TurnParts.{owed_is}
use Rattle.cy_proc.proofs.processor.Processor.next_job.Goals as goal

pub returns-clause-owed : goal.returns-clause-owed
returns-clause-owed c = λ T s. c.owed_job.ensures ∙ owed_is T c.args.self.now (plainly T s.line.sound) s.processor
