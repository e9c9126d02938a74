-- What the tactics leave of the proof of `RespHead::field_size`.
use Rattle.std.proofs.Common.{arith, ap}
use Rattle.cy_event.specs.Answers.{Answer}
use Rattle.cy_respond.specs.Fields.{field_size}
use Rattle.cy_respond.proofs.Kept.{kept_size}
use Rattle.cy_respond.proofs.head.RespHead.field_size.Goals as goal

pub overflow_sub-result : goal.overflow_sub-result
overflow_sub-result c = omega (arith, kept_size c.self.inside c.self.invariant)

pub returns-clause-size : goal.returns-clause-size
returns-clause-size c =
    let same = ap (λ (a : Answer). field_size a.fields) c.self.view_is in
    omega (arith, kept_size c.self.inside c.self.invariant, same)
