-- The bytes of an answer by the pieces of its content, apart from how it is made: its head, and behind it the pieces
-- (RFC 9112, sections 4, 6 and 7.1).
use Rattle.std.specs.Prelude.{ℕ, Bool, true, false, List, ◌++◌, Option, Some, unwrap_or}
use Rattle.std.specs.List.{flat_map}
use Rattle.cy_event.specs.Answers.{Answer}
use Rattle.cy_event.specs.AnswerModes.{Asked, Mode, head_of_shape, last_text, mode_of, piece_text, shape_of}

-- what these pieces and the end of the content are written as
abbrev pub content_text : Mode → List (List ℕ) → List ℕ
content_text mode pieces = flat_map (piece_text mode) pieces ++ last_text mode

-- The length that a head knows: where something is cut before the end, the one that was set, if one was; else that of
-- the whole content, if none was set.
abbrev pub known_length : Bool → Option ℕ → ℕ → Option ℕ
known_length true set_length size = set_length
known_length false set_length size = Some (unwrap_or set_length size)

-- the bytes of an answer: its head, which knows this length and is of this moment, and behind it the content in pieces
abbrev pub answer_bytes : Answer → Asked → Option ℕ → ℕ → List (List ℕ) → List ℕ
answer_bytes head asked known moment pieces =
    head_of_shape head (shape_of asked head.status known) moment ++ content_text (mode_of asked head.status known) pieces

-- what of it is written already, where the head is out and these pieces are cut
abbrev pub bytes_so_far : Answer → Asked → Option ℕ → ℕ → List (List ℕ) → List ℕ
bytes_so_far head asked known moment pieces =
    head_of_shape head (shape_of asked head.status known) moment
    ++ flat_map (piece_text (mode_of asked head.status known)) pieces
