-- Laws of heads. Each is the contract of a public function without a body.
use Rattle.std.specs.Prelude.{◌≡◌, ℕ, true, List, [], ◌++◌, length, codes, Some}
use Rattle.std.specs.List.{Contains, list_all}
use Rattle.cy_event.specs.Answers.{Answer, crlf, field_line}
use Rattle.cy_event.specs.AnswerModes.{Shape, head_of_shape}
use Rattle.cy_event.specs.Heads.{Field, colon, cut_at, front_length, line_feed, values_of}
use Rattle.cy_respond.specs.Fields.{may_stand, reserved_names}

-- A field's line as a reader finds it: its first LF is its end, and its first colon ends the name.
pub record StandsAlone (f : Field) (rest : List ℕ) : Type 0 where
  pub line : cut_at line_feed (field_line f ++ rest) ≡ Some (f.name ++ codes ": " ++ f.value ++ codes "\r", rest)
  pub name : cut_at colon (field_line f) ≡ Some (f.name, codes " " ++ f.value ++ crlf)

-- a field that may stand there is one line of its own name, whatever follows
abbrev pub FieldsStandAlone : Type 0
FieldsStandAlone = (f : Field) (rest : List ℕ) → may_stand f ≡ true → StandsAlone f rest

-- where all fields may stand there, the first empty line of an answer is its head's end, whatever content follows
abbrev pub HeadsEndOnce : Type 0
HeadsEndOnce =
    (a : Answer) (shape : Shape) (at : ℕ) (content : List ℕ) → list_all may_stand a.fields ≡ true
    → front_length (head_of_shape a shape at ++ content) ≡ Some (length (head_of_shape a shape at))

-- where all fields may stand there, none is named like one that the connector writes itself: so what a head says of the
-- content and of the connection is what its shape says, and nothing where that says nothing
abbrev pub ReservedNamesAreKept : Type 0
ReservedNamesAreKept =
    (fields : List Field) (name : List ℕ) → list_all may_stand fields ≡ true → Contains reserved_names name → values_of name fields ≡ []
