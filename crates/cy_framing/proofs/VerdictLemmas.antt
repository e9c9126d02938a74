-- The verdict on a head, by what was found of its fields.
use Rattle.std.proofs.Common.{◌≡◌, ℕ, Bool, true, false, not, ◌&&◌, List, [], ◌∷◌, eqb, sym, ap, ◌∙◌, Ok, Err, codes}
use Rattle.std.specs.List.{list_any}
use Rattle.std.proofs.lemmas.Bool.{cond-true, cond-false}
use Rattle.cy_event.specs.Heads.{Field, is_named, values_of}
use Rattle.cy_event.specs.Framings.{bad_request, body_framing, coding_framing, elements_of, expectation_failed, framed, framed_by, framing_by, has_body, awaits_continue, is_continue, persists, is_met, length_framing}
use Rattle.cy_event.specs.declared.framing.Framing.{Framing}
use Rattle.cy_event.specs.declared.framing.Framing.TheVariants.{None as no_body}
use Rattle.cy_framing.proofs.BothLemmas.{no_lines, some_lines}

-- ---- the body

abbrev coding_name : List ℕ
coding_name = codes "Transfer-Encoding"

abbrev length_name : List ℕ
length_name = codes "Content-Length"

pub nothing_is_said : (minor : ℕ) (fields : List Field) → list_any (is_named coding_name) fields ≡ false → list_any (is_named length_name) fields ≡ false
    → Ok no_body ≡ body_framing minor fields
nothing_is_said minor fields c l =
    sym (ap (λ (lines : List (List ℕ)). framing_by minor lines (values_of length_name fields)) (no_lines coding_name fields c)
    ∙ ap (framing_by minor []) (no_lines length_name fields l))

pub length_is_said : (minor : ℕ) (fields : List Field) → list_any (is_named coding_name) fields ≡ false → list_any (is_named length_name) fields ≡ true
    → length_framing (elements_of (values_of length_name fields)) ≡ body_framing minor fields
length_is_said minor fields c l =
    let some = some_lines length_name fields l in
    ap (λ (lines : List (List ℕ)). length_framing (elements_of lines)) some.2
    ∙ sym (ap (λ (lines : List (List ℕ)). framing_by minor lines (values_of length_name fields)) (no_lines coding_name fields c)
    ∙ ap (framing_by minor []) some.2)

pub both_are_said : (minor : ℕ) (fields : List Field) → list_any (is_named coding_name) fields ≡ true → list_any (is_named length_name) fields ≡ true
    → Err bad_request ≡ body_framing minor fields
both_are_said minor fields c l =
    let codings = some_lines coding_name fields c in
    let lengths = some_lines length_name fields l in
    sym (ap (λ (lines : List (List ℕ)). framing_by minor lines (values_of length_name fields)) codings.2
    ∙ ap (framing_by minor (codings.0 ∷ codings.1)) lengths.2)

pub coding_is_said : (minor : ℕ) (fields : List Field) → list_any (is_named coding_name) fields ≡ true → list_any (is_named length_name) fields ≡ false
    → coding_framing minor (values_of coding_name fields) ≡ body_framing minor fields
coding_is_said minor fields c l =
    let codings = some_lines coding_name fields c in
    sym (ap (λ (lines : List (List ℕ)). framing_by minor lines (values_of length_name fields)) codings.2
    ∙ ap (framing_by minor (codings.0 ∷ codings.1)) (no_lines length_name fields l)
    ∙ ap (coding_framing minor) (sym codings.2))

-- ---- all of it

abbrev pub options : List Field → List (List ℕ)
options fields = elements_of (values_of (codes "Connection") fields)

abbrev pub expectations : List Field → List (List ℕ)
expectations fields = elements_of (values_of (codes "Expect") fields)

pub body_is_refused : (minor : ℕ) (fields : List Field) (status : ℕ) → Err status ≡ body_framing minor fields → Err status ≡ framed minor fields
unfolding framed
body_is_refused minor fields status e = ap (framed_by minor (options fields) (expectations fields)) e

pub expectation_is_refused : (minor : ℕ) (fields : List Field) (body : Framing) (other : Bool) → Ok body ≡ body_framing minor fields
    → not other ≡ is_met minor (expectations fields) → other ≡ true → Err expectation_failed ≡ framed minor fields
unfolding framed
expectation_is_refused minor fields body other e met failed =
    sym (sym (ap (framed_by minor (options fields) (expectations fields)) e)
    ∙ cond-false (is_met minor (expectations fields)) _ _ (sym met ∙ ap not failed))

pub all_is_told : (minor : ℕ) (fields : List Field) (body : Framing) (other keep go_on : Bool) → Ok body ≡ body_framing minor fields
    → not other ≡ is_met minor (expectations fields) → other ≡ false → keep ≡ persists minor (options fields)
    → go_on ≡ awaits_continue minor (expectations fields) body
    → Ok (record { body = body; keep = keep; go_on = go_on }) ≡ framed minor fields
unfolding framed
all_is_told minor fields body other keep go_on e met fine k g =
    sym (sym (ap (framed_by minor (options fields) (expectations fields)) e)
    ∙ cond-true (is_met minor (expectations fields)) _ _ (sym met ∙ ap not fine)
    ∙ ap (λ (t : Bool). Ok (record { body = body; keep = t; go_on = awaits_continue minor (expectations fields) body })) (sym k)
    ∙ ap (λ (t : Bool). Ok (record { body = body; keep = keep; go_on = t })) (sym g))

pub awaited : (minor : ℕ) (elements : List (List ℕ)) (body : Framing) (go_on comes : Bool) → go_on ≡ (not (eqb minor 0) && list_any is_continue elements)
    → go_on ≡ true → comes ≡ has_body body → comes ≡ awaits_continue minor elements body
awaited minor elements body go_on comes e some is = is ∙ ap (λ (t : Bool). t && has_body body) (sym (sym e ∙ some))

pub not_awaited : (minor : ℕ) (elements : List (List ℕ)) (body : Framing) (go_on : Bool) → go_on ≡ (not (eqb minor 0) && list_any is_continue elements)
    → go_on ≡ false → go_on ≡ awaits_continue minor elements body
not_awaited minor elements body go_on e none = none ∙ ap (λ (t : Bool). t && has_body body) (sym (sym e ∙ none))
