-- The path and the query that a request's target names (RFC 9112, section 3.2; RFC 3986, sections 2.1, 3.3, 3.4 and 5.2.4).
use Rattle.std.specs.Prelude.{ℕ, ◌+◌, ◌*◌, Bool, true, false, ◌&&◌, ◌||◌, not, List, [], ◌∷◌, ◌++◌, length, take, drop, if◌then◌else◌, ◌==◌, Option, Some, None, option_map, option_and_then, codes, bytes_eq, ⊤}
use Rattle.std.specs.List.{list_all}
use Rattle.std.specs.Char.{digit_value, is_digit}
use Rattle.std.specs.Str.{byte, str_eq_ignore_ascii_case}
use Rattle.cy_event.specs.Heads.{cut_at, is_empty, parts_at, percent}

-- what a target names: a path, and a query where there is one
pub record PathAndQuery : Type 0 where
  pub path : List ℕ
  pub query : Option (List ℕ)

abbrev pub slash : ℕ
slash = byte "/"

abbrev pub backslash : ℕ
backslash = byte "\\"

abbrev pub question_mark : ℕ
question_mark = byte "?"

abbrev pub number_sign : ℕ
number_sign = byte "#"

abbrev pub semicolon : ℕ
semicolon = byte ";"

-- ---- forms of a target (RFC 9112, section 3.2)

-- the bytes begin with this word, in any case
abbrev pub begins_with : List ℕ → List ℕ → Bool
begins_with word bytes = str_eq_ignore_ascii_case (take (length word) bytes) word

-- an authority ends before a path or a query (RFC 3986, section 3.2)
abbrev pub ends_authority : ℕ → Bool
ends_authority b = b == slash || b == question_mark

-- the bytes from the end of an authority on
abbrev pub after_authority : List ℕ → List ℕ
after_authority [] = []
after_authority (b ∷ bytes) = if ends_authority b then b ∷ bytes else after_authority bytes

-- an empty path is `/` (RFC 9112, section 3.2.1)
abbrev pub with_path : List ℕ → List ℕ
with_path [] = slash ∷ []
with_path (b ∷ bytes) = if b == question_mark then slash ∷ b ∷ bytes else b ∷ bytes

-- what an absolute form (section 3.2.2) names behind its scheme and its authority
abbrev pub within_authority : List ℕ → List ℕ → List ℕ
within_authority scheme target = with_path (after_authority (drop (length scheme) target))

-- the target as an origin form (section 3.2.1)
abbrev pub origin_form : List ℕ → List ℕ
origin_form target =
    if begins_with (codes "http://") target then within_authority (codes "http://") target
    else if begins_with (codes "https://") target then within_authority (codes "https://") target
    else target

-- ---- the segments of a path (RFC 3986, section 3.3)

-- what stands before the cut, or all
abbrev pub before_cut : List ℕ → Option (List ℕ × List ℕ) → List ℕ
before_cut segment None = segment
before_cut segment (Some parts) = parts.0

-- a segment without its parameters
abbrev pub without_parameters : List ℕ → List ℕ
without_parameters segment = before_cut segment (cut_at semicolon segment)

-- a byte that an escape may stand for
abbrev pub may_be_escaped : ℕ → Bool
may_be_escaped b = not (b == slash || (b == backslash || b == 0))

-- the byte of two hexadecimal digits
abbrev pub hex_byte : ℕ → ℕ → ℕ
hex_byte high low = 16 * digit_value high + digit_value low

-- behind a percent sign these two are digits of a byte that may be escaped (section 2.1)
abbrev pub is_escape : ℕ → ℕ → Bool
is_escape high low = (is_digit high 16 && is_digit low 16) && may_be_escaped (hex_byte high low)

-- b put before the bytes, where there are any to be put before
abbrev pub onto : ℕ → Option (List ℕ) → Option (List ℕ)
onto b bytes = option_map (λ rest. b ∷ rest) bytes

-- the bytes with the byte of each escape in its place; none where a percent sign begins no escape
abbrev pub unescaped : List ℕ → Option (List ℕ)
unescaped [] = Some []
unescaped (b ∷ []) = if b == percent then None else Some (b ∷ [])
unescaped (b ∷ c ∷ []) = if b == percent then None else onto b (unescaped (c ∷ []))
unescaped (b ∷ high ∷ low ∷ bytes) =
    if b == percent
    then (if is_escape high low then onto (hex_byte high low) (unescaped bytes) else None)
    else onto b (unescaped (high ∷ low ∷ bytes))

-- both, or none
abbrev pub with_segment : Option (List ℕ) → Option (List (List ℕ)) → Option (List (List ℕ))
with_segment None segments = None
with_segment (Some segment) segments = option_map (λ more. segment ∷ more) segments

-- all segments without parameters and escapes, or none
abbrev pub plain_segments : List (List ℕ) → Option (List (List ℕ))
plain_segments [] = Some []
plain_segments (segment ∷ segments) = with_segment (unescaped (without_parameters segment)) (plain_segments segments)

-- ---- dot segments (RFC 3986, section 5.2.4)

abbrev pub is_dot : List ℕ → Bool
is_dot segment = bytes_eq segment (codes ".")

abbrev pub is_dot_dot : List ℕ → Bool
is_dot_dot segment = bytes_eq segment (codes "..")

-- A segment that is neither empty nor a dot segment. Empty ones are dropped like `.`, which is own: the RFC keeps them.
abbrev pub is_ordinary : List ℕ → Bool
is_ordinary segment = not (is_empty segment || (is_dot segment || is_dot_dot segment))

-- ---- where a path leads: a place is the names that were entered, the newest first

-- The place above. There is none above the root: such a path is refused, which is own (the RFC drops the `..`).
abbrev pub parent : List (List ℕ) → Option (List (List ℕ))
parent [] = None
parent (name ∷ names) = Some names

-- where a segment leads from the place of these names
abbrev pub step : List (List ℕ) → List ℕ → Option (List (List ℕ))
step names segment =
    if is_dot_dot segment then parent names
    else Some (if is_ordinary segment then segment ∷ names else names)

-- where the segments lead, one after another; none where one leads above the root
abbrev pub place_of : List (List ℕ) → List (List ℕ) → Option (List (List ℕ))
place_of names [] = Some names
place_of names (segment ∷ segments) = option_and_then (λ there. place_of there segments) (step names segment)

-- the last segment is empty or a dot segment
abbrev pub ends_at_slash : List (List ℕ) → Bool
ends_at_slash [] = false
ends_at_slash (segment ∷ []) = not (is_ordinary segment)
ends_at_slash (segment ∷ next ∷ segments) = ends_at_slash (next ∷ segments)

-- the path of a place: a slash before each name
abbrev pub place_text : List (List ℕ) → List ℕ
place_text [] = []
place_text (name ∷ names) = place_text names ++ slash ∷ name

-- with an empty segment at the end, where it has one
abbrev pub with_slash : Bool → List ℕ → List ℕ
with_slash true text = text ++ slash ∷ []
with_slash false text = text

-- the path that the segments make from the place of these names on
abbrev pub path_through : List (List ℕ) → List (List ℕ) → Option (List ℕ)
path_through names segments = option_map (λ there. with_slash (ends_at_slash segments) (place_text there)) (place_of names segments)

-- the path of what a target has behind its first slash, up to its query
abbrev pub path_of : List ℕ → Option (List ℕ)
path_of raw = option_and_then (path_through []) (plain_segments (parts_at slash raw))

-- ---- targets

-- the query begins at the first question mark (RFC 3986, section 3.4)
abbrev pub cut_query : List ℕ → Option (List ℕ × List ℕ) → List ℕ × Option (List ℕ)
cut_query raw None = (raw, None)
cut_query raw (Some parts) = (parts.0, Some parts.1)

-- a byte that may stand behind the first slash
abbrev pub may_follow : ℕ → Bool
may_follow b = not (b == number_sign || b == backslash)

-- path and query, as they were sent, of what stands behind the first slash
abbrev pub raw_parts : List ℕ → Option (List ℕ × Option (List ℕ))
raw_parts raw = if list_all may_follow raw then Some (cut_query raw (cut_at question_mark raw)) else None

-- the path and the query that were sent so
abbrev pub named_by : List ℕ × Option (List ℕ) → Option PathAndQuery
named_by parts = option_map (λ path. record { path = path; query = parts.1 }) (path_of parts.0)

-- what stands behind the first slash of an origin form, which begins with it (RFC 9112, section 3.2.1)
abbrev pub behind_slash : List ℕ → Option (List ℕ)
behind_slash [] = None
behind_slash (b ∷ raw) = if b == slash then Some raw else None

-- asterisk-form (RFC 9112, section 3.2.4)
abbrev pub is_asterisk : List ℕ → List ℕ → Bool
is_asterisk method target = bytes_eq method (codes "OPTIONS") && bytes_eq target (codes "*")

-- what the target of a request with this method names; none where it is bad
unfoldable pub target_of : List ℕ → List ℕ → Option PathAndQuery
target_of method target =
    if is_asterisk method target then Some (record { path = codes "*"; query = None })
    else option_and_then named_by (option_and_then raw_parts (behind_slash (origin_form target)))

-- what an answer unfolds to compute these words on a literal
unfoldable pub targets_on_literals : ⊤
unfolding target_of
targets_on_literals = tt
