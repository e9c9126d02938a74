-- What is left to show of `Line::settle`.
use Rattle.std.proofs.Common.{◌∙◌}
use Rattle.cy_proc.proofs.Lines.{rest_from}
use Rattle.cy_proc.proofs.line.Line.settle.Goals as goal

pub returns-clause-rests : goal.returns-clause-rests
returns-clause-rests c = λ T s. rest_from c.args.limits.now T c.args.self.now _ s (c.standing.ensures.same ∙ c.rest.ensures)
