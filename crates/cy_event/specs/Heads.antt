-- The head of a request (RFC 9112, sections 2, 3 and 5), read by whole lines.
use Rattle.std.specs.Prelude.{ℕ, ◌+◌, Bool, true, false, ◌&&◌, ◌||◌, not, List, [], ◌∷◌, length, take, reverse, if◌then◌else◌, ◌==◌, nat_lt, nat_le, Option, Some, None, codes, ⊤}
use Rattle.std.specs.List.{list_all, list_any, onto_first}
use Rattle.std.specs.Char.{is_ascii_alphanumeric, is_ascii_digit, is_ascii_hexdigit}
use Rattle.std.specs.Str.{bytes_eq, str_eq_ignore_ascii_case, is_utf8, chars}
use lib.Utf8.{encode}

-- ---- what a head is

-- a field line (section 5): its name, and its value without the blanks at both ends
pub record Field : Type 0 where
  pub name : List ℕ
  pub value : List ℕ

-- a request's head: the request line (section 3), whose version is HTTP/1.minor, and the fields
pub record Head : Type 0 where
  pub method : List ℕ
  pub target : List ℕ
  pub minor : ℕ
  pub fields : List Field

-- what stands at the front of the bytes: not whole yet; a head and its length; no head, and none to come
pub data Front : Type 0 where
  awaited : Front
  found : ℕ → Head → Front
  malformed : Front

-- ---- bytes

abbrev pub tab : ℕ
tab = 9

abbrev pub line_feed : ℕ
line_feed = 10

abbrev pub carriage_return : ℕ
carriage_return = 13

abbrev pub space : ℕ
space = 32

abbrev pub percent : ℕ
percent = 37

abbrev pub dot : ℕ
dot = 46

abbrev pub colon : ℕ
colon = 58

abbrev pub open_bracket : ℕ
open_bracket = 91

abbrev pub close_bracket : ℕ
close_bracket = 93

abbrev pub delete : ℕ
delete = 127

-- a space or a tab
abbrev pub is_blank : ℕ → Bool
is_blank b = b == space || b == tab

-- a byte of a method or of a field's name (tchar; RFC 9110, section 5.6.2)
unfoldable pub is_name_byte : ℕ → Bool
is_name_byte b = is_ascii_alphanumeric b || list_any (λ c. c == b) (codes "!#$%&'*+-.^_`|~")

-- a byte of a target: visible, or past ASCII, which is wider than section 3.2
abbrev pub is_target_byte : ℕ → Bool
is_target_byte b = nat_lt space b && not (b == delete)

-- a byte of a field's value: also a space or a tab (RFC 9110, section 5.5)
abbrev pub is_value_byte : ℕ → Bool
is_value_byte b = b == tab || (nat_le space b && not (b == delete))

-- ---- texts

abbrev pub is_empty : List ℕ → Bool
is_empty [] = true
is_empty (b ∷ bytes) = false

-- one or more bytes that may stand in a name
abbrev pub is_name : List ℕ → Bool
is_name bytes = not (is_empty bytes) && list_all is_name_byte bytes

-- one or more bytes that may stand in a target, which are UTF-8
abbrev pub is_target : List ℕ → Bool
is_target bytes = not (is_empty bytes) && (list_all is_target_byte bytes && is_utf8 bytes)

-- the bytes from the first that is no blank
abbrev pub skip_blanks : List ℕ → List ℕ
skip_blanks [] = []
skip_blanks (b ∷ bytes) = if is_blank b then skip_blanks bytes else b ∷ bytes

-- the bytes without the blanks at both ends (RFC 9110, section 5.6.3)
unfoldable pub trimmed : List ℕ → List ℕ
trimmed bytes = reverse (skip_blanks (reverse (skip_blanks bytes)))

-- b put before the first part
abbrev pub onto_cut : ℕ → Option (List ℕ × List ℕ) → Option (List ℕ × List ℕ)
onto_cut b None = None
onto_cut b (Some parts) = Some (b ∷ parts.0, parts.1)

-- what stands before the first of these bytes, and what stands after it
abbrev pub cut_at : ℕ → List ℕ → Option (List ℕ × List ℕ)
cut_at byte [] = None
cut_at byte (b ∷ bytes) = if b == byte then Some ([], bytes) else onto_cut b (cut_at byte bytes)

-- the parts between all of these bytes
abbrev pub parts_at : ℕ → List ℕ → List (List ℕ)
parts_at byte [] = [] ∷ []
parts_at byte (b ∷ bytes) = let parts = parts_at byte bytes in if b == byte then [] ∷ parts else onto_first b parts

-- ---- lines (section 2.2)

-- the lines as they stand, without their LF but with a CR before it; the last one has not ended
abbrev pub raw_lines : List ℕ → List (List ℕ)
raw_lines bytes = parts_at line_feed bytes

-- a line without one CR at its end
abbrev pub bare : List ℕ → List ℕ
bare [] = []
bare (b ∷ []) = if b == carriage_return then [] else b ∷ []
bare (b ∷ c ∷ bytes) = b ∷ bare (c ∷ bytes)

abbrev pub is_empty_line : List ℕ → Bool
is_empty_line line = is_empty (bare line)

-- these bytes more
abbrev pub longer_by : ℕ → Option ℕ → Option ℕ
longer_by n None = None
longer_by n (Some m) = Some (n + m)

-- how many bytes there are up to the end of the first empty line after one that isn't empty;
-- `begun` where such a one has come
abbrev pub length_to_empty : Bool → List (List ℕ) → Option ℕ
length_to_empty begun [] = None
length_to_empty begun (line ∷ []) = None
length_to_empty begun (line ∷ next ∷ lines) =
    if begun && is_empty_line line then Some (length line + 1)
    else longer_by (length line + 1) (length_to_empty (begun || not (is_empty_line line)) (next ∷ lines))

-- the length of the shortest prefix that ends in an empty line after a line that isn't empty
unfoldable pub front_length : List ℕ → Option ℕ
front_length bytes = length_to_empty false (raw_lines bytes)

-- ---- the head that a whole text is

-- field-line = field-name ":" OWS field-value OWS (section 5)
abbrev pub field_from : Option (List ℕ × List ℕ) → Option Field
field_from None = None
field_from (Some parts) =
    if is_name parts.0 && list_all is_value_byte parts.1
    then Some (record { name = parts.0; value = trimmed parts.1 }) else None

-- the field that the line is
abbrev pub field_of : List ℕ → Option Field
field_of line = field_from (cut_at colon line)

-- both, or none
abbrev pub with_field : Option Field → Option (List Field) → Option (List Field)
with_field (Some field) (Some fields) = Some (field ∷ fields)
with_field (Some field) None = None
with_field None fields = None

-- the fields of the lines up to an empty line, after which nothing stands
abbrev pub fields_of : List (List ℕ) → Option (List Field)
fields_of [] = None
fields_of (line ∷ []) = None
fields_of (line ∷ rest ∷ []) = if is_empty_line line && is_empty rest then Some [] else None
fields_of (line ∷ next ∷ more ∷ lines) = with_field (field_of (bare line)) (fields_of (next ∷ more ∷ lines))

-- HTTP-version (section 2.3), of which 1.0 and 1.1 are read
abbrev pub minor_of : List ℕ → Option ℕ
minor_of version =
    if bytes_eq version (codes "HTTP/1.1") then Some 1
    else if bytes_eq version (codes "HTTP/1.0") then Some 0 else None

-- the head of these parts
abbrev pub head_from : List ℕ → List ℕ → Option ℕ → Option (List Field) → Option Head
head_from method target (Some minor) (Some fields) =
    if is_name method && is_target target
    then Some (record { method = method; target = target; minor = minor; fields = fields }) else None
head_from method target (Some minor) None = None
head_from method target None fields = None

-- request-line = method SP request-target SP HTTP-version (section 3)
abbrev pub head_of_words : List (List ℕ) → Option (List Field) → Option Head
head_of_words (method ∷ target ∷ version ∷ []) fields = head_from method target (minor_of version) fields
head_of_words words fields = None

-- a request line, and then fields
abbrev pub head_of_lines : List (List ℕ) → Option Head
head_of_lines [] = None
head_of_lines (line ∷ lines) = head_of_words (parts_at space (bare line)) (fields_of lines)

-- the lines from the first that isn't empty (section 2.2: empty lines before a request line don't count)
abbrev pub skip_empty_lines : List (List ℕ) → List (List ℕ)
skip_empty_lines [] = []
skip_empty_lines (line ∷ lines) = if is_empty_line line then skip_empty_lines lines else line ∷ lines

-- the head that the whole text is
unfoldable pub whole_head : List ℕ → Option Head
whole_head text = head_of_lines (skip_empty_lines (raw_lines text))

-- ---- Host (RFC 9112, section 3.2; RFC 9110, section 7.2)

-- a byte of a host's name; % begins an escape
abbrev pub is_host_byte : ℕ → Bool
is_host_byte b = is_ascii_alphanumeric b || list_any (λ c. c == b) (codes "-._~!$&'()*+,;=%")

-- two hexadecimal digits stand first
abbrev pub begins_with_hex : List ℕ → Bool
begins_with_hex [] = false
begins_with_hex (high ∷ []) = false
begins_with_hex (high ∷ low ∷ bytes) = is_ascii_hexdigit high && is_ascii_hexdigit low

-- each % is followed by two hexadecimal digits
abbrev pub is_escaped : List ℕ → Bool
is_escaped [] = true
is_escaped (b ∷ bytes) = (not (b == percent) || begins_with_hex bytes) && is_escaped bytes

-- nothing, or a colon and any number of digits
abbrev pub is_port : List ℕ → Bool
is_port [] = true
is_port (b ∷ bytes) = b == colon && list_all is_ascii_digit bytes

-- a name of one or more bytes
abbrev pub is_host_name : List ℕ → Bool
is_host_name name = not (is_empty name) && (list_all is_host_byte name && is_escaped name)

-- a byte inside of brackets
abbrev pub is_address_byte : ℕ → Bool
is_address_byte b = is_ascii_hexdigit b || (b == colon || b == dot)

-- an address that ended at its bracket, and a port
abbrev pub is_address : Option (List ℕ × List ℕ) → Bool
is_address None = false
is_address (Some parts) =
    (not (is_empty parts.0) && list_all is_address_byte parts.0) && is_port parts.1

-- a name up to its colon and a port; or a name alone
abbrev pub is_name_and_port : List ℕ → Option (List ℕ × List ℕ) → Bool
is_name_and_port value None = is_host_name value
is_name_and_port value (Some parts) = is_host_name parts.0 && list_all is_ascii_digit parts.1

-- nothing, or a host and optionally a port
abbrev pub is_host : List ℕ → Bool
is_host [] = true
is_host (b ∷ bytes) =
    if b == open_bracket then is_address (cut_at close_bracket bytes)
    else is_name_and_port (b ∷ bytes) (cut_at colon (b ∷ bytes))

-- the field has this name, in any case
abbrev pub is_named : List ℕ → Field → Bool
is_named name field = str_eq_ignore_ascii_case field.name name

-- b put first where the test holds
abbrev pub value_before : Bool → List ℕ → List (List ℕ) → List (List ℕ)
value_before true value values = value ∷ values
value_before false value values = values

-- the values of the fields of this name
abbrev pub values_of : List ℕ → List Field → List (List ℕ)
values_of name [] = []
values_of name (field ∷ fields) = value_before (is_named name field) field.value (values_of name fields)

-- HTTP/1.1 has one Host, HTTP/1.0 at most one
abbrev pub is_one_host : ℕ → List (List ℕ) → Bool
is_one_host minor [] = minor == 0
is_one_host minor (value ∷ []) = is_host value
is_one_host minor (value ∷ next ∷ values) = false

-- the head's Host fields are right
unfoldable pub host_fits : Head → Bool
host_fits h = is_one_host h.minor (values_of (codes "Host") h.fields)

-- ---- what stands at the front

-- the whole front is this, of n bytes
abbrev pub front_from : ℕ → ℕ → Option Head → Front
front_from max_fields n None = malformed
front_from max_fields n (Some h) =
    if nat_le (length h.fields) max_fields && host_fits h then found n h else malformed

-- the front has n bytes, or there is none
abbrev pub head_from_front : ℕ → ℕ → List ℕ → Option ℕ → Front
head_from_front max_head max_fields bytes None = if nat_le max_head (length bytes) then malformed else awaited
head_from_front max_head max_fields bytes (Some n) =
    if nat_le n max_head then front_from max_fields n (whole_head (take n bytes)) else malformed

-- the head at the front of the bytes: one of at most max_head bytes and max_fields fields; both limits are own
unfoldable pub head_of : ℕ → ℕ → List ℕ → Front
head_of max_head max_fields bytes = head_from_front max_head max_fields bytes (front_length bytes)

-- what an answer unfolds to compute these words on a literal
unfoldable pub heads_on_literals : ⊤
unfolding is_name_byte trimmed front_length whole_head host_fits head_of is_utf8 chars encode
heads_on_literals = tt
