-- What is answered with room for few fields holds with room for as many as there may be, unless it is that there is no head.
use Rattle.std.proofs.Common.{◌≤◌, ℕ, List, length, take, sym, ap, ◌∙◌, arith, length-take}
use Rattle.httparse.specs.declared.spans.HeaderSpan.{HeaderSpan}
use Rattle.cy_event.specs.Heads.{Front}
use Rattle.cy_head.specs.Answers.{answer_to, filled_by}
use Rattle.cy_head.proofs.HeadFronts.{few_are_enough}
use Rattle.cy_head.proofs.front.head_front.Goals as goal

no_more_than : (room many : ℕ) (spans : List HeaderSpan) → room ≤ many → length (take room spans) ≤ many
no_more_than room many spans few = omega (arith, few, length-take room spans)

pub returns-in_default : goal.returns-in_default
returns-in_default c =
    let many = c.args.limits.now.max_fields in
    let few : c.min-room.result ≤ many = omega (arith, c.min-room.ensures) in
    let same = few_are_enough c.args.limits.now.max_head _ many c.args.bytes.now (no_more_than c.min-room.result many _ few)
    (λ bad. c.in_default.not-Bad (c.read_front.ensures.front ∙ ap answer_to bad)) in
    record {
      front = c.read_front.ensures.front ∙ ap answer_to (sym same);
      parts = c.read_front.ensures.parts ∙ ap (λ (found : Front). filled_by found c.args.into.now) (sym same);
    }
