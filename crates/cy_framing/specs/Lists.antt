-- What is remembered of the elements of a list.
use Rattle.std.specs.Prelude.{ℕ, Bool, true, false, ◌||◌, ◌&&◌, List, [], ◌∷◌, if◌then◌else◌, ◌==◌, nat_le, Option, Some, None, Result, Ok, Err, codes}
use Rattle.std.specs.List.{list_all}
use Rattle.std.specs.Char.{is_digit}
use Rattle.std.specs.Str.{byte}
use Rattle.std.specs.Str.Parse.{digits_value}
use Rattle.cy_event.specs.Heads.{cut_at}
use Rattle.cy_event.specs.Framings.{bad_request, comma, greatest_length, is_chunked, is_continue, is_word, not_implemented}
use Rattle.cy_event.specs.Targets.{before_cut}
use Rattle.cy_event.specs.declared.framing.Framing.{Framing}
use Rattle.cy_event.specs.declared.framing.Framing.TheVariants as body
use Rattle.cy_framing.specs.declared.lengths.Lengths.{Lengths}
use Rattle.cy_framing.specs.declared.lengths.Lengths.TheVariants as agreed
use Rattle.cy_framing.specs.declared.codings.Codings.{Codings}
use Rattle.cy_framing.specs.declared.codings.Codings.TheVariants as coding
use Rattle.cy_framing.specs.declared.connection.Options.{Options}
use Rattle.cy_framing.specs.declared.expectations.Expected.{Expected}

-- ---- cuts

abbrev pub behind_cut : Option (List ℕ × List ℕ) → List ℕ
behind_cut None = []
behind_cut (Some parts) = parts.1

-- what stands before the first comma, or all
abbrev pub first_part : List ℕ → List ℕ
first_part list = before_cut list (cut_at comma list)

-- what stands behind it, or nothing
abbrev pub later_parts : List ℕ → List ℕ
later_parts list = behind_cut (cut_at comma list)

-- ---- Content-Length

-- the bytes from the first that isn't a zero
abbrev pub without_zeros : List ℕ → List ℕ
without_zeros [] = []
without_zeros (b ∷ bytes) = if b == byte "0" then without_zeros bytes else b ∷ bytes

-- the number that an element is
abbrev pub length_in : List ℕ → Option ℕ
length_in element =
    if list_all (λ b. is_digit b 10) element && nat_le (digits_value 10 element) greatest_length then Some (digits_value 10 element) else None

abbrev pub after_number : Lengths → Option ℕ → Lengths
after_number lengths None = agreed.Refused
after_number agreed.Unknown (Some n) = agreed.Same n
after_number (agreed.Same m) (Some n) = if m == n then agreed.Same m else agreed.Refused
after_number agreed.Refused (Some n) = agreed.Refused

abbrev pub after_element : Lengths → List ℕ → Lengths
after_element lengths element = after_number lengths (length_in element)

-- the framing that they tell
abbrev pub lengths_verdict : Lengths → Result Framing ℕ
lengths_verdict agreed.Unknown = Err bad_request
lengths_verdict (agreed.Same n) = Ok (body.Length n)
lengths_verdict agreed.Refused = Err bad_request

-- ---- Transfer-Encoding

abbrev pub after_chunked : Codings → Bool → Codings
after_chunked coding.Unknown true = coding.Chunked
after_chunked coding.Unknown false = coding.Others
after_chunked coding.Others true = coding.ChunkedLast
after_chunked coding.Others false = coding.Others
after_chunked coding.Chunked chunked = coding.Refused
after_chunked coding.ChunkedLast chunked = coding.Refused
after_chunked coding.Refused chunked = coding.Refused

abbrev pub after_coding : Codings → List ℕ → Codings
after_coding codings element = after_chunked codings (is_chunked element)

-- the framing that they tell
abbrev pub codings_verdict : Codings → Result Framing ℕ
codings_verdict coding.Unknown = Err bad_request
codings_verdict coding.Others = Err bad_request
codings_verdict coding.Chunked = Ok body.Chunked
codings_verdict coding.ChunkedLast = Err not_implemented
codings_verdict coding.Refused = Err bad_request

-- ---- Connection and Expect

abbrev pub after_option : Options → List ℕ → Options
after_option options element = record {
  close = options.close || is_word (codes "close") element;
  keep_alive = options.keep_alive || is_word (codes "keep-alive") element;
}

abbrev pub after_expectation : Expected → List ℕ → Expected
after_expectation expected element =
    if is_continue element then record { go_on = true; other = expected.other } else record { go_on = expected.go_on; other = true }
