-- What the tactics leave of the proof of `RespHead::head_len`.
use Rattle.std.proofs.Common.{arith, ap, ◌≤◌, ◌∙◌, length}
use Rattle.std.specs.Prelude.{decimal}
use Rattle.std.proofs.lemmas.Fmt.{length-decimal-le}
use Rattle.cy_respond.specs.FieldLines.{answer_of}
use Rattle.cy_respond.specs.Shapes.{told_shape}
use Rattle.cy_respond.proofs.HeadSizes.{head_size}
use Rattle.cy_respond.proofs.head.RespHead.head_len.Goals as goal

pub returns-clause-exact : goal.returns-clause-exact
returns-clause-exact c =
    let b = c.self.inside in
    let digits = ap length c.format.ensures.text in
    let lines = ap length c.self.invariant.lines in
    let line = ap length c.line.ensures.text in
    λ at. rw (← c.self.view_is) (head_size (answer_of b) (told_shape c.args.shape.now) at ∙ omega (arith, digits, lines, line, b.lines.ok.0, c.len.ensures, c.framing_len.ensures.exact))

pub returns-clause-within : goal.returns-clause-within
returns-clause-within c =
    let b = c.self.inside in
    let digits = ap length c.format.ensures.text in
    let short : length (decimal b.status) ≤ 3 = length-decimal-le 3 b.status (omega arith) (omega arith) (omega arith) in
    omega (arith, digits, short)
