-- What the fields of a `RequestHead` tell, and the room that they keep.
use Rattle.std.specs.Prelude.{◌≡◌, ℕ, ◌≤◌, IsFalse, List, [], map, slice_range, vec_len, vec_capacity}
use Rattle.std.specs.List.{All}
use Rattle.cy_event.specs.Heads.{Field}
use Rattle.cy_event.specs.RequestHeads.{RequestParts, query_of}
use Rattle.cy_event.specs.declared.head.TheConstants.{HEAD_ROOM, FIELD_ROOM}
use Rattle.cy_event.specs.declared.head.FieldSpan.{FieldSpan}
use Rattle.cy_event.specs.declared.head.RequestHead.TheInside.{Inside}

-- the field that a span covers
abbrev pub field_in : List ℕ → FieldSpan → Field
field_in bytes s = record {
  name = slice_range bytes s.start s.middle;
  value = slice_range bytes s.middle s.end;
}

-- what the fields of a `RequestHead` tell
abbrev pub parts_of : Inside → RequestParts
parts_of h = record {
  head = record {
    method = h.method_bytes.items;
    target = h.target_bytes.items;
    minor = h.version;
    fields = map (field_in h.field_bytes.items) h.spans.items;
  };
  path = h.path_bytes.items;
  query = query_of h.has_query h.query_bytes.items;
  field_size = vec_len h.field_bytes;
}

-- the span is in order, and ends within so many bytes
abbrev pub IsSpanWithin : ℕ → FieldSpan → Type 0
IsSpanWithin size s = (s.start ≤ s.middle) × (s.middle ≤ s.end) × (s.end ≤ size)

-- each byte field has its room, and holds no more; where there is no query, none of its bytes is left
pub record KeepsRoom (h : Inside) : Type 0 where
  pub method_room : HEAD_ROOM ≤ vec_capacity h.method_bytes
  pub method_size : vec_len h.method_bytes ≤ HEAD_ROOM
  pub target_room : HEAD_ROOM ≤ vec_capacity h.target_bytes
  pub target_size : vec_len h.target_bytes ≤ HEAD_ROOM
  pub path_room : HEAD_ROOM ≤ vec_capacity h.path_bytes
  pub path_size : vec_len h.path_bytes ≤ HEAD_ROOM
  pub query_room : HEAD_ROOM ≤ vec_capacity h.query_bytes
  pub query_size : vec_len h.query_bytes ≤ HEAD_ROOM
  pub no_query : IsFalse h.has_query → h.query_bytes.items ≡ []
  pub field_room : HEAD_ROOM ≤ vec_capacity h.field_bytes
  pub field_size : vec_len h.field_bytes ≤ HEAD_ROOM
  pub span_room : (FIELD_ROOM ≤ vec_capacity h.spans) × (vec_len h.spans ≤ FIELD_ROOM)
  pub version : h.version ≤ 1
  pub spans : All (IsSpanWithin (vec_len h.field_bytes)) h.spans.items
