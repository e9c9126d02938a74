-- The field that came last is what its span covers, and the others stay.
use Rattle.std.proofs.Common.{◌≡◌, ℕ, ◌+◌, ◌++◌, List, [], ◌∷◌, length, map, vec_len, arith, subst, ap, ◌∙◌}
use Rattle.std.proofs.lemmas.Grind.{common_steps}
use Rattle.std.specs.List.{All}
use Rattle.cy_event.specs.HeadRoom.{field_in, IsSpanWithin}
use Rattle.cy_event.specs.RequestHeads.{query_of}
use Rattle.cy_event.proofs.FieldSpans.{fields_more}
use Rattle.cy_event.proofs.head.RequestHead.push_field.Goals as goal

pub returns : goal.returns
returns c =
    let before = c.self.inside in
    let after = c.extend_in_room-2.new.to in
    let spans = c.push_reserved.new.self.items in
    let name = c.args.name.now in
    let value = c.args.value.now in
    let same : vec_len before.field_bytes ≡ length before.field_bytes.items = before.field_bytes.ok.0 in
    let start : c.len-start.result ≡ length before.field_bytes.items = c.len-start.ensures ∙ same in
    let within : All (IsSpanWithin (length before.field_bytes.items)) before.spans.items
    = subst (λ (size : ℕ). All (IsSpanWithin size) before.spans.items) same c.self.invariant.spans in
    let bytes : after.items ≡ (before.field_bytes.items ++ name) ++ value
    = c.extend_in_room-2.ensures.items ∙ ap (λ (xs : List ℕ). xs ++ value) c.extend_in_room.ensures.items in
    let size : vec_len after ≡ vec_len before.field_bytes + length name + length value
    = after.ok.0 ∙ ap length bytes ∙ grind (arith, common_steps) in
    let fields : map (field_in after.items) spans
    ≡ map (field_in before.field_bytes.items) before.spans.items ++ record { name = name; value = value } ∷ []
    = ap (λ (xs : List ℕ). map (field_in xs) spans) bytes
    ∙ ap (map (field_in ((before.field_bytes.items ++ name) ++ value))) c.push_reserved.ensures.items
    ∙ fields_more before.field_bytes.items name value before.spans.items _ within start (omega arith) (omega arith) in
    rw (← c.self.view_is) (λ i. record {
      head = record {
        method = before.method_bytes.items;
        target = before.target_bytes.items;
        minor = before.version;
        fields = fields i;
      };
      path = before.path_bytes.items;
      query = query_of before.has_query before.query_bytes.items;
      field_size = size i;
    })
