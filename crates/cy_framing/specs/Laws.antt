-- Laws of the definitions. Each is the contract of a public function without a body.
use Rattle.std.specs.Prelude.{◌≡◌, ℕ, List, ◌∷◌, ◌++◌, Contains, Err, codes}
use Rattle.std.specs.List.{join_with_byte}
use Rattle.std.specs.Str.{str_to_ascii_lowercase}
use Rattle.cy_event.specs.Heads.{Field, values_of}
use Rattle.cy_event.specs.Framings.{bad_request, comma, elements_in, elements_of, framed}

-- the elements of all lines are those of one line with all their values, joined by commas
abbrev pub LinesAreJoinedByCommas : Type 0
LinesAreJoinedByCommas = (name : List ℕ) (fields : List Field)
    → elements_of (values_of name fields) ≡ elements_in (join_with_byte comma (values_of name fields))

abbrev pub line : List ℕ → List ℕ → Field
line name value = record { name = name; value = value }

-- of two lines that follow each other, and of one with both values and a comma between them, the elements of every
-- field are the same
abbrev pub LinesMayBeSplit : Type 0
LinesMayBeSplit = (name listed : List ℕ) (before after : List Field) (value more : List ℕ)
    → elements_of (values_of name (before ++ line listed value ∷ line listed more ∷ after))
    ≡ elements_of (values_of name (before ++ line listed (value ++ comma ∷ more) ∷ after))

-- where one field is a Content-Length and one a Transfer-Encoding, in any case, the head is refused
abbrev pub BothFieldsAreRefused : Type 0
BothFieldsAreRefused = (minor : ℕ) (fields : List Field) (length coding : Field)
    → Contains fields length → str_to_ascii_lowercase length.name ≡ codes "content-length"
    → Contains fields coding → str_to_ascii_lowercase coding.name ≡ codes "transfer-encoding"
    → framed minor fields ≡ Err bad_request
