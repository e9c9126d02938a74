-- How a request's body is framed (RFC 9112, section 6), whether its connection is kept (section 9.3), and what the
-- request expects (RFC 9110, section 10.1.1).
use Rattle.std.specs.Prelude.{ℕ, ◌^◌, Bool, true, false, ◌&&◌, ◌||◌, not, List, [], ◌∷◌, filter, map, reverse, if◌then◌else◌, ◌==◌, nat_lt, nat_le, Result, Ok, Err, codes, ⊤}
use Rattle.std.specs.List.{flat_map, list_all, list_any}
use Rattle.std.specs.Char.{is_digit}
use Rattle.std.specs.Str.{byte, str_eq_ignore_ascii_case}
use Rattle.std.specs.Str.Parse.{digits_value}
use Rattle.cy_event.specs.Heads.{Field, is_empty, parts_at, trimmed, values_of}
use Rattle.cy_event.specs.declared.framing.Framing.{Framing}
use Rattle.cy_event.specs.declared.framing.Framing.TheVariants.{None as no_body, Length, Chunked}

-- ---- list fields (RFC 9110, section 5.6.1)

abbrev pub comma : ℕ
comma = byte ","

-- the elements of one line: what stands between commas, without blanks at both ends; empty ones don't count
abbrev pub elements_in : List ℕ → List (List ℕ)
elements_in value = filter (λ element. not (is_empty element)) (map trimmed (parts_at comma value))

-- the elements of all lines, one line after another
abbrev pub elements_of : List (List ℕ) → List (List ℕ)
elements_of lines = flat_map elements_in lines

-- the element is this word, in any case
abbrev pub is_word : List ℕ → List ℕ → Bool
is_word word element = str_eq_ignore_ascii_case element word

-- one of the elements is this word
abbrev pub has_word : List ℕ → List (List ℕ) → Bool
has_word word elements = list_any (is_word word) elements

-- ---- statuses (RFC 9110, section 15)

abbrev pub bad_request : ℕ
bad_request = 400

abbrev pub expectation_failed : ℕ
expectation_failed = 417

abbrev pub not_implemented : ℕ
not_implemented = 501

-- ---- the body (RFC 9112, section 6.3)

-- the longest body
abbrev pub greatest_length : ℕ
greatest_length = 2 ^ 62

-- decimal digits of this value, zeros before them too
abbrev pub is_number : ℕ → List ℕ → Bool
is_number n element = list_all (λ b. is_digit b 10) element && digits_value 10 element == n

-- Content-Length (section 6.2): numbers, all of them one
abbrev pub length_framing : List (List ℕ) → Result Framing ℕ
length_framing [] = Err bad_request
length_framing (element ∷ elements) =
    let n = digits_value 10 element in
    if list_all (is_number n) (element ∷ elements) && nat_le n greatest_length then Ok (Length n) else Err bad_request

abbrev pub is_chunked : List ℕ → Bool
is_chunked coding = is_word (codes "chunked") coding

-- Transfer-Encoding (section 6.1) by the last coding and those before it: chunked is the last one, and stands once;
-- no other coding is implemented
abbrev pub framing_by_last : List (List ℕ) → Result Framing ℕ
framing_by_last [] = Err bad_request
framing_by_last (last ∷ []) = if is_chunked last then Ok Chunked else Err bad_request
framing_by_last (last ∷ coding ∷ codings) =
    if is_chunked last && not (list_any is_chunked (coding ∷ codings)) then Err not_implemented else Err bad_request

-- the same by the lines of the field, of which there is one at least; HTTP/1.0 has no codings
abbrev pub coding_framing : ℕ → List (List ℕ) → Result Framing ℕ
coding_framing minor lines = if minor == 0 then Err bad_request else framing_by_last (reverse (elements_of lines))

-- The framing by the lines of both fields. A request with both is how requests are smuggled (section 11.2).
abbrev pub framing_by : ℕ → List (List ℕ) → List (List ℕ) → Result Framing ℕ
framing_by minor [] [] = Ok no_body
framing_by minor [] (length_line ∷ lines) = length_framing (elements_of (length_line ∷ lines))
framing_by minor (coding_line ∷ lines) [] = coding_framing minor (coding_line ∷ lines)
framing_by minor (coding_line ∷ coding_lines) (length_line ∷ lines) = Err bad_request

abbrev pub body_framing : ℕ → List Field → Result Framing ℕ
body_framing minor fields =
    framing_by minor (values_of (codes "Transfer-Encoding") fields) (values_of (codes "Content-Length") fields)

-- bytes of a body come
abbrev pub has_body : Framing → Bool
has_body no_body = false
has_body (Length n) = nat_lt 0 n
has_body Chunked = true

-- ---- the connection and expectations

-- the connection persists by its options (RFC 9112, section 9.3)
abbrev pub persists : ℕ → List (List ℕ) → Bool
persists minor options = not (has_word (codes "close") options) && (not (minor == 0) || has_word (codes "keep-alive") options)

abbrev pub is_continue : List ℕ → Bool
is_continue expectation = is_word (codes "100-continue") expectation

-- HTTP/1.1 expects nothing but `100-continue`; in HTTP/1.0 the field is ignored
abbrev pub is_met : ℕ → List (List ℕ) → Bool
is_met minor expectations = minor == 0 || list_all is_continue expectations

-- the client waits for `100 Continue` before it sends the body
abbrev pub awaits_continue : ℕ → List (List ℕ) → Framing → Bool
awaits_continue minor expectations body = (not (minor == 0) && list_any is_continue expectations) && has_body body

-- ---- all of it

-- how the body is framed, whether the connection is kept, and whether `100 Continue` is due
pub record Framed : Type 0 where
  pub body : Framing
  pub keep : Bool
  pub go_on : Bool

-- all of it, where the body has a framing
abbrev pub framed_by : ℕ → List (List ℕ) → List (List ℕ) → Result Framing ℕ → Result Framed ℕ
framed_by minor options expectations (Err status) = Err status
framed_by minor options expectations (Ok body) =
    if is_met minor expectations
    then Ok (record { body = body; keep = persists minor options; go_on = awaits_continue minor expectations body })
    else Err expectation_failed

-- of a head with this minor version and these fields, or the status that refuses it
unfoldable pub framed : ℕ → List Field → Result Framed ℕ
framed minor fields =
    framed_by minor (elements_of (values_of (codes "Connection") fields)) (elements_of (values_of (codes "Expect") fields))
    (body_framing minor fields)

-- what an answer unfolds to compute these words on a literal
unfoldable pub framings_on_literals : ⊤
unfolding framed trimmed
framings_on_literals = tt
