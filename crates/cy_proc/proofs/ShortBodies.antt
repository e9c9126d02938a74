-- A head that has a framing frames a body of at most 2^62 bytes, where it has a length.
use Rattle.std.proofs.Common.{◌≡◌, ℕ, true, false, ◌&&◌, not, ◌==◌, List, [], ◌∷◌, Result, Ok, Err, codes, refl, subst, reverse, leb-true, if◌then◌else◌}
use Rattle.std.proofs.lemmas.Bool.{and_parts}
use Rattle.std.specs.List.{list_all, list_any}
use Rattle.std.specs.Prelude.{nat_le}
use Rattle.std.specs.Str.Parse.{digits_value}
use Rattle.cy_event.specs.declared.framing.Framing.{Framing}
use Rattle.cy_event.specs.declared.framing.Framing.TheVariants.{Length, Chunked}
use Rattle.cy_event.specs.Framings.{Framed, awaits_continue, bad_request, body_framing, coding_framing, elements_of, expectation_failed, framed, framed_by, framing_by, framing_by_last, greatest_length, is_chunked, is_met, is_number, length_framing, not_implemented, persists}
use Rattle.cy_event.specs.Heads.{Field, values_of}
use Rattle.cy_in.specs.Intakes.{IsShort}

IsShortResult : Result Framing ℕ → Type 0
IsShortResult (Ok f) = IsShort f
IsShortResult (Err status) = Unit {0}

length_short : (elements : List (List ℕ)) → IsShortResult (length_framing elements)
unfolding IsShortResult
length_short [] = tt
length_short (element ∷ elements) =
    let n = digits_value 10 element in
    elim (list_all (is_number n) (element ∷ elements) && nat_le n greatest_length) as (λ v. list_all (is_number n) (element ∷ elements) && nat_le n greatest_length ≡ v
    → IsShortResult (if v then Ok (Length n) else Err bad_request)) [
      | true ↦ λ e. leb-true n greatest_length (and_parts (list_all (is_number n) (element ∷ elements)) (nat_le n greatest_length) e).1
      | false ↦ λ e. tt
    ] refl

last_short : (codings : List (List ℕ)) → IsShortResult (framing_by_last codings)
unfolding IsShortResult
last_short [] = tt
last_short (last ∷ []) = elim (is_chunked last) as (λ v. IsShortResult (if v then Ok Chunked else Err bad_request)) [ true ↦ tt | false ↦ tt ]
last_short (last ∷ coding ∷ codings) =
    elim (is_chunked last && not (list_any is_chunked (coding ∷ codings))) as (λ v. IsShortResult (if v then Err not_implemented else Err bad_request)) [ true ↦ tt | false ↦ tt ]

coding_short : (minor : ℕ) (lines : List (List ℕ)) → IsShortResult (coding_framing minor lines)
unfolding IsShortResult
coding_short minor lines =
    elim (minor == 0) as (λ v. IsShortResult (if v then Err bad_request else framing_by_last (reverse (elements_of lines)))) [
      | true ↦ tt
      | false ↦ last_short (reverse (elements_of lines))
    ]

framing_short : (minor : ℕ) (codings lengths : List (List ℕ)) → IsShortResult (framing_by minor codings lengths)
unfolding IsShortResult
framing_short minor [] [] = tt
framing_short minor [] (line ∷ lines) = length_short (elements_of (line ∷ lines))
framing_short minor (line ∷ lines) [] = coding_short minor (line ∷ lines)
framing_short minor (coding ∷ codings) (line ∷ lines) = tt

IsShortFramed : Result Framed ℕ → Type 0
IsShortFramed (Ok f) = IsShort f.body
IsShortFramed (Err status) = Unit {0}

by_body : (minor : ℕ) (options expectations : List (List ℕ)) (body : Result Framing ℕ) → IsShortResult body → IsShortFramed (framed_by minor options expectations body)
unfolding IsShortResult IsShortFramed
by_body minor options expectations (Err status) short = tt
by_body minor options expectations (Ok body) short =
    elim (is_met minor expectations) as (λ v. IsShortFramed (if v
    then Ok (record { body = body; keep = persists minor options; go_on = awaits_continue minor expectations body })
    else Err expectation_failed)) [ true ↦ short | false ↦ tt ]

all_short : (minor : ℕ) (fields : List Field) → IsShortFramed (framed minor fields)
unfolding framed
all_short minor fields =
    by_body minor (elements_of (values_of (codes "Connection") fields)) (elements_of (values_of (codes "Expect") fields)) (body_framing minor fields)
    (framing_short minor (values_of (codes "Transfer-Encoding") fields) (values_of (codes "Content-Length") fields))

pub framed_short : (minor : ℕ) (fields : List Field) (f : Framed) → framed minor fields ≡ Ok f → IsShort f.body
unfolding IsShortFramed
framed_short minor fields f e = subst IsShortFramed e (all_short minor fields)
