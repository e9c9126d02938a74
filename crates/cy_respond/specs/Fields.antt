-- Which fields a component may give an answer (RFC 9110, sections 5.5 and 5.6.2).
use Rattle.std.specs.Prelude.{ℕ, ◌+◌, Bool, not, ◌&&◌, ◌==◌, nat_lt, nat_le, if◌then◌else◌, List, [], ◌∷◌, ◌++◌, length, codes}
use Rattle.std.specs.List.{list_all, list_any}
use Rattle.std.specs.Str.{str_eq_ignore_ascii_case}
use Rattle.cy_bytes.specs.Tokens.{is_token}
use Rattle.cy_event.specs.Answers.{Answer}
use Rattle.cy_event.specs.Heads.{Field}
use Rattle.cy_event.specs.declared.steps.Reply.{Reply}
use Rattle.cy_event.specs.declared.steps.Reply.TheVariants as reply
use Rattle.cy_respond.specs.declared.head.TheConstants.{FIELD_LIMIT, FIELD_SIZE_LIMIT, LEAST_STATUS, GREATEST_STATUS}

-- the connector writes these itself, or they would change how the content is framed
abbrev pub reserved_names : List (List ℕ)
reserved_names = codes "Content-Length" ∷ codes "Transfer-Encoding" ∷ codes "Connection" ∷ codes "Date" ∷ codes "Trailer" ∷ []

-- in any case
abbrev pub is_reserved : List ℕ → Bool
is_reserved name = list_any (λ reserved. str_eq_ignore_ascii_case name reserved) reserved_names

-- no CR, LF or NUL, with which a value would end its line or hide what follows
abbrev pub is_line_byte : ℕ → Bool
is_line_byte b = not (b == 13) && not (b == 10) && not (b == 0)

abbrev pub is_free_name : List ℕ → Bool
is_free_name name = is_token name && not (is_reserved name)

abbrev pub is_one_line : List ℕ → Bool
is_one_line value = list_all is_line_byte value

-- a component may give an answer this field
abbrev pub may_stand : Field → Bool
may_stand f = is_free_name f.name && is_one_line f.value

-- how many bytes the name and the value have
abbrev pub size_of_field : Field → ℕ
size_of_field f = length f.name + length f.value

-- how many bytes all names and values have together
abbrev pub field_size : List Field → ℕ
field_size [] = 0
field_size (f ∷ fs) = size_of_field f + field_size fs

abbrev pub with_field : Field → Answer → Answer
with_field f a = record a { fields = a.fields ++ f ∷ [] }

-- there are as many fields as there may be
abbrev pub has_most_fields : List Field → Bool
has_most_fields fields = nat_le FIELD_LIMIT (length fields)

-- the names and values would take too many bytes
abbrev pub is_too_long : Field → List Field → Bool
is_too_long f fields = nat_lt FIELD_SIZE_LIMIT (field_size fields + size_of_field f)

abbrev pub field_reply : Field → Answer → Reply
field_reply f a =
    if not (may_stand f) then reply.BadValue
    else (if has_most_fields a.fields then reply.TooMany FIELD_LIMIT
    else (if is_too_long f a.fields then reply.TooMany FIELD_SIZE_LIMIT else reply.Done))

abbrev pub after_field : Field → Answer → Answer
after_field f a =
    if may_stand f && not (has_most_fields a.fields) && not (is_too_long f a.fields) then with_field f a else a

-- a status that an answer may have
abbrev pub is_status : ℕ → Bool
is_status status = nat_le LEAST_STATUS status && nat_le status GREATEST_STATUS

abbrev pub status_reply : ℕ → Reply
status_reply status = if is_status status then reply.Done else reply.BadValue

abbrev pub after_status : ℕ → Answer → Answer
after_status status a = if is_status status then record a { status = status } else a
