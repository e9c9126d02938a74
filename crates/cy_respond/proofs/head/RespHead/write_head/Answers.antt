-- What the tactics leave of the proof of `RespHead::write_head`.
use Rattle.std.proofs.Common.{arith, ap, sym, ◌≡◌, ◌++◌, ◌∙◌, ℕ, List, append_assoc}
use Rattle.cy_event.specs.AnswerModes.{framing_lines, head_of_shape}
use Rattle.cy_rings.specs.Rings.{Rings}
use Rattle.cy_respond.specs.HeadParts.{end_lines, start_lines}
use Rattle.cy_respond.specs.Shapes.{told, told_shape}
use Rattle.cy_respond.proofs.HeadSizes.{head_is, head_size}
use Rattle.cy_respond.proofs.head.RespHead.write_head.Goals as goal

pub put_start-requires : goal.put_start-requires
put_start-requires c = omega (arith, head_size c.args.self.now (told_shape c.args.shape.now) c.args.at)

pub put_framing-requires : goal.put_framing-requires
put_framing-requires c = omega (arith, head_size c.args.self.now (told_shape c.args.shape.now) c.args.at)

pub put_end-requires-clause-room : goal.put_end-requires-clause-room
put_end-requires-clause-room c = omega (arith, head_size c.args.self.now (told_shape c.args.shape.now) c.args.at)

pub returns-clause-head : goal.returns-clause-head
returns-clause-head c =
    let kit = c.args.kit.now in
    let start = start_lines c.args.self.now in
    let framing = framing_lines c.args.shape.now.length c.args.shape.now.chunked in
    let last = end_lines c.args.at (told c.args.shape.now.connection) in
    let behind : (((kit.output ++ start) ++ framing) ++ last) ≡ kit.output ++ head_of_shape c.args.self.now (told_shape c.args.shape.now) c.args.at
    = ap (λ (xs : List ℕ). xs ++ last) (append_assoc kit.output start framing)
    ∙ append_assoc kit.output (start ++ framing) last
    ∙ ap (λ (xs : List ℕ). kit.output ++ xs) (sym (head_is c.args.self.now (told_shape c.args.shape.now) c.args.at)) in
    let before = ap (λ (k : Rings). record k { output = k.output ++ framing }) c.put_start.ensures.output in
    c.put_end.ensures
    ∙ ap (λ (k : Rings). record k { output = k.output ++ last }) (c.put_framing.ensures.output ∙ before)
    ∙ λ i. record { input = kit.input; output = behind i }
