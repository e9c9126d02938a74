-- The laws of the definitions.
use Rattle.std.proofs.Common.{◌≡◌, ℕ, zero, suc, ◌<◌, Bool, true, false, ◌||◌, List, [], ◌∷◌, ◌++◌, length, get_or, refl, sym, ap, ◌∙◌, arith, append-nil, append_assoc, codes}
use Rattle.std.specs.Prelude.{Contains}
use Rattle.std.specs.List.{join_with_byte, list_any}
use Rattle.std.specs.Str.{str_to_ascii_lowercase}
use Rattle.std.proofs.lemmas.Slice.Eq.{bytes_eq-Decides}
use Rattle.std.proofs.lemmas.List.Concat.{flat_map-append}
use Rattle.std.proofs.lemmas.Bool.{or_right}
use Rattle.cy_event.specs.Heads.{Field, is_named, value_before, values_of}
use Rattle.cy_event.specs.Framings.{elements_in, elements_of, framed, framed_by, framing_by}
use Rattle.cy_framing.specs.Laws.{BothFieldsAreRefused, LinesAreJoinedByCommas, LinesMayBeSplit, line}
use Rattle.cy_framing.proofs.ElementLemmas.{elements_in-between, elements_in-none}
use Rattle.cy_framing.proofs.BothLemmas.{some_lines}

-- ---- lines joined

joined : (lines : List (List ℕ)) → elements_of lines ≡ elements_in (join_with_byte 44 lines)
joined [] = sym elements_in-none
joined (value ∷ []) = append-nil (elements_in value)
joined (value ∷ more ∷ lines) =
    ap (λ (rest : List (List ℕ)). elements_in value ++ rest) (joined (more ∷ lines))
    ∙ sym (elements_in-between value (join_with_byte 44 (more ∷ lines)))

pub lines_are_joined_by_commas : LinesAreJoinedByCommas
lines_are_joined_by_commas name fields = joined (values_of name fields)

-- ---- lines split

values_of-append : (name : List ℕ) (before after : List Field) → values_of name (before ++ after) ≡ values_of name before ++ values_of name after
values_of-append name [] after = refl
values_of-append name (field ∷ before) after =
    ap (value_before (is_named name field) field.value) (values_of-append name before after) ∙ by_test (is_named name field)
  where
    by_test : (t : Bool) → value_before t field.value (values_of name before ++ values_of name after) ≡ value_before t field.value (values_of name before) ++ values_of name after
    by_test true = refl
    by_test false = refl

two_lines : (value more : List ℕ) (rest : List (List ℕ)) (t : Bool)
    → elements_of (value_before t value (value_before t more rest)) ≡ elements_of (value_before t (value ++ 44 ∷ more) rest)
two_lines value more rest true =
    sym (append_assoc (elements_in value) (elements_in more) (elements_of rest))
    ∙ ap (λ (front : List (List ℕ)). front ++ elements_of rest) (sym (elements_in-between value more))
two_lines value more rest false = refl

pub lines_may_be_split : LinesMayBeSplit
lines_may_be_split name listed before after value more =
    let two : List Field = line listed value ∷ line listed more ∷ after in
    let one : List Field = line listed (value ++ 44 ∷ more) ∷ after in
    ap elements_of (values_of-append name before two)
    ∙ flat_map-append elements_in (values_of name before) (values_of name two)
    ∙ ap (λ (rest : List (List ℕ)). elements_of (values_of name before) ++ rest) (two_lines value more (values_of name after) (is_named name (line listed value)))
    ∙ sym (ap elements_of (values_of-append name before one) ∙ flat_map-append elements_in (values_of name before) (values_of name one))

-- ---- both fields

there : (p : Field → Bool) (fields : List Field) (k : ℕ) (field : Field) → k < length fields → get_or fields k field ≡ field → p field ≡ true → list_any p fields ≡ true
there p [] k field inside e passes = absurd (omega arith)
there p (first ∷ fields) zero field inside e passes = ap (λ (f : Field). p f || list_any p fields) e ∙ ap (λ (t : Bool). t || list_any p fields) passes
there p (first ∷ fields) (suc k) field inside e passes = or_right (p first) _ (there p fields k field (omega arith) e passes)

named : (name : List ℕ) (fields : List Field) (field : Field) → Contains fields field → str_to_ascii_lowercase field.name ≡ str_to_ascii_lowercase name
    → list_any (is_named name) fields ≡ true
named name fields field held e =
    there (is_named name) fields held.0 field held.1 held.2 ((bytes_eq-Decides (str_to_ascii_lowercase field.name) (str_to_ascii_lowercase name)).1 e)

pub both_fields_are_refused : BothFieldsAreRefused
unfolding framed
both_fields_are_refused minor fields length coding has_length is_length has_coding is_coding =
    let lengths = some_lines (codes "Content-Length") fields (named (codes "Content-Length") fields length has_length is_length) in
    let codings = some_lines (codes "Transfer-Encoding") fields (named (codes "Transfer-Encoding") fields coding has_coding is_coding) in
    let options : List (List ℕ) = elements_of (values_of (codes "Connection") fields) in
    let expectations : List (List ℕ) = elements_of (values_of (codes "Expect") fields) in
    ap (λ (lines : List (List ℕ)). framed_by minor options expectations (framing_by minor lines (values_of (codes "Content-Length") fields))) codings.2
    ∙ ap (λ (lines : List (List ℕ)). framed_by minor options expectations (framing_by minor (codings.0 ∷ codings.1) lines)) lengths.2
