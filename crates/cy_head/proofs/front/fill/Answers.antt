-- The next field has room.
use Rattle.std.proofs.Common.{◌≡◌, ℕ, List, length, take, ap, arith}
use Rattle.httparse.specs.declared.spans.HeaderSpan.{HeaderSpan}
use Rattle.cy_event.specs.RequestHeads.{RequestParts}
use Rattle.cy_head.specs.Answers.{size_of_fields}
use Rattle.cy_head.specs.HeadSpans.{fields_at}
use Rattle.cy_head.proofs.HeadTables.{size_so_far}
use Rattle.cy_head.proofs.front.fill.Goals as goal

pub push_field-requires-clause-room : goal.push_field-requires-clause-room
push_field-requires-clause-room c =
    let none : HeaderSpan = record { name = record { start = 0; end = 0 }; value = record { start = 0; end = 0 } } in
    let so_far = size_so_far c.args.front.now c.args.fields.now c.loop-field.field-index none c.loop-field-test.true in
    let size : c.loop-field.into.field_size ≡ size_of_fields (fields_at c.args.front.now (take c.loop-field.field-index c.args.fields.now))
    = ap (λ (parts : RequestParts). parts.field_size) c.loop-field.invariant in
    let name = ap (λ (xs : List ℕ). length xs) c.of-in-loop-field.ensures in
    let value = ap (λ (xs : List ℕ). length xs) c.of-in-loop-field-2.ensures in
    omega (arith, so_far, size, name, value, c.requires.size)
