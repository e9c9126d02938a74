-- The lines of an answer's fields as they are kept, and the fields that stand in them.
use Rattle.std.specs.Prelude.{◌≡◌, ℕ, ◌+◌, ◌*◌, ◌≤◌, List, [], map, None, slice_range, true, vec_len, vec_capacity}
use Rattle.std.specs.List.{All, flat_map, list_all}
use Rattle.cy_event.specs.Answers.{Answer, field_line}
use Rattle.cy_event.specs.Heads.{Field}
use Rattle.cy_respond.specs.Fields.{may_stand}
use Rattle.cy_respond.specs.declared.head.FieldPlace.{FieldPlace}
use Rattle.cy_respond.specs.declared.head.RespHead.TheInside.{Inside}
use Rattle.cy_respond.specs.declared.head.TheConstants.{FIELD_LIMIT, FIELD_SIZE_LIMIT, LINE_EXTRA, LINE_ROOM, LEAST_STATUS, GREATEST_STATUS}

-- the field whose line stands there
abbrev pub field_at : List ℕ → FieldPlace → Field
field_at lines p = record {
  name = slice_range lines p.start p.colon;
  value = slice_range lines (p.colon + 2) p.end;
}

abbrev pub fields_of : Inside → List Field
fields_of h = map (field_at h.lines.items) h.places.items

abbrev pub answer_of : Inside → Answer
answer_of h = record { status = h.status; fields = fields_of h; set_length = None; content = [] }

-- the place is in order, and ends within so many bytes
abbrev pub IsPlaceWithin : ℕ → FieldPlace → Type 0
IsPlaceWithin size p = (p.start ≤ p.colon) × (p.colon + 2 ≤ p.end) × (p.end ≤ size)

-- the lines are those of the fields, which may stand there, within the limits and the room
pub record KeepsFields (h : Inside) : Type 0 where
  pub line_room : LINE_ROOM ≤ vec_capacity h.lines
  pub line_size : vec_len h.lines ≤ FIELD_SIZE_LIMIT + LINE_EXTRA * vec_len h.places
  pub place_room : FIELD_LIMIT ≤ vec_capacity h.places
  pub place_count : vec_len h.places ≤ FIELD_LIMIT
  pub status_least : LEAST_STATUS ≤ h.status
  pub status_greatest : h.status ≤ GREATEST_STATUS
  pub lines : h.lines.items ≡ flat_map field_line (fields_of h)
  pub places : All (IsPlaceWithin (vec_len h.lines)) h.places.items
  pub fields : list_all may_stand (fields_of h) ≡ true
