-- Elements of lists, one after another.
use Rattle.std.proofs.Common.{◌≡◌, ℕ, ◌+◌, ◌<◌, Bool, true, false, not, cond, List, [], ◌∷◌, ◌++◌, length, drop, map, reverse, refl, sym, ap, ◌||◌, ◌∙◌, arith, eqb, Option, Some, None, append-nil}
use Rattle.std.specs.Prelude.{filter, fold, slice_get}
use Rattle.std.specs.List.{list_any}
use Rattle.std.proofs.lemmas.Bool.{cond-true, cond-false, ne_eqb}
use Rattle.std.proofs.lemmas.Grind.{fold-append}
use Rattle.std.proofs.lemmas.Option.{slice_get_within, get_or_from_slice_get}
use Rattle.std.proofs.lemmas.List.{drop_more, map-append, reverse-append, reverse-reverse}
use Rattle.std.proofs.lemmas.List.Elements.{filter-append}
use Rattle.cy_event.specs.Heads.{Field, cut_at, is_blank, is_empty, is_named, parts_at, skip_blanks, trimmed, value_before, values_of}
use Rattle.cy_event.specs.Framings.{elements_in, elements_of}
use Rattle.cy_event.proofs.Cuts.{parts_at-between, parts_at-cut, parts_at-uncut}
use Rattle.cy_event.specs.Targets.{before_cut}
use Rattle.cy_framing.specs.Lists.{behind_cut, first_part, later_parts}

-- ---- one line

-- the element that a part is, where it is one
abbrev pub element_of : List ℕ → List (List ℕ)
element_of part = filter (λ element. not (is_empty element)) (part ∷ [])

by_cut : (list : List ℕ) (cut : Option (List ℕ × List ℕ)) → cut_at 44 list ≡ cut
    → elements_in list ≡ element_of (trimmed (before_cut list cut)) ++ elements_in (behind_cut cut)
unfolding trimmed
by_cut list None e = ap (λ (parts : List (List ℕ)). filter (λ element. not (is_empty element)) (map trimmed parts)) (parts_at-uncut 44 list e) ∙ sym (append-nil _)
by_cut list (Some parts) e =
    ap (λ (all : List (List ℕ)). filter (λ element. not (is_empty element)) (map trimmed all)) (parts_at-cut 44 list parts.0 parts.1 e)
    ∙ filter-append (λ element. not (is_empty element)) (trimmed parts.0 ∷ []) (map trimmed (parts_at 44 parts.1))

pub elements_in-first : (list : List ℕ) → elements_in list ≡ element_of (trimmed (first_part list)) ++ elements_in (later_parts list)
elements_in-first list = by_cut list (cut_at 44 list) refl

pub elements_in-none : let none : List ℕ = [] in elements_in none ≡ []
unfolding trimmed
elements_in-none = refl

pub elements_in-between : (value more : List ℕ) → elements_in (value ++ 44 ∷ more) ≡ elements_in value ++ elements_in more
elements_in-between value more =
    ap (λ (parts : List (List ℕ)). filter (λ element. not (is_empty element)) (map trimmed parts)) (parts_at-between 44 value more)
    ∙ ap (filter (λ element. not (is_empty element))) (map-append trimmed (parts_at 44 value) (parts_at 44 more))
    ∙ filter-append (λ element. not (is_empty element)) (map trimmed (parts_at 44 value)) (map trimmed (parts_at 44 more))

-- ---- what is remembered, in a line

taken_by_test : {S : Type 0} (after : S → List ℕ → S) (tally now : S) (element : List ℕ) (t : Bool) → is_empty element ≡ t
    → now ≡ cond t tally (after tally element) → fold after tally (element_of element) ≡ now
taken_by_test {S} after tally now element true e is = ap (λ (t : Bool). fold after tally (cond (not t) (element ∷ []) [])) e ∙ sym is
taken_by_test {S} after tally now element false e is = ap (λ (t : Bool). fold after tally (cond (not t) (element ∷ []) [])) e ∙ sym is

-- behind an element the rest adds what is left
pub taken : {S : Type 0} (after : S → List ℕ → S) (tally now : S) (list element more : List ℕ) (t : Bool) → element ≡ trimmed (first_part list) → more ≡ later_parts list
    → is_empty element ≡ t → now ≡ cond t tally (after tally element) → fold after now (elements_in more) ≡ fold after tally (elements_in list)
taken {S} after tally now list element more t e m empty is =
    sym (ap (fold after tally) (elements_in-first list)
    ∙ fold-append after tally (element_of (trimmed (first_part list))) (elements_in (later_parts list))
    ∙ ap (λ (part : List ℕ). fold after (fold after tally (element_of part)) (elements_in (later_parts list))) (sym e)
    ∙ ap (λ (s : S). fold after s (elements_in (later_parts list))) (taken_by_test after tally now element t empty is)
    ∙ ap (λ (rest : List ℕ). fold after now (elements_in rest)) (sym m))

-- ---- fields

pub field_here : {X : Type 0} (fields : List X) (i : ℕ) (field : X) → slice_get fields i ≡ Some field → drop i fields ≡ field ∷ drop (i + 1) fields
field_here {X} fields i field e =
    let inside : i < length fields = slice_get_within fields i field e in
    drop_more fields i field inside ∙ ap (λ (x : X). x ∷ drop (i + 1) fields) (get_or_from_slice_get fields i field field e)

-- ---- a field of a name

pub named_there : (name : List ℕ) (fields : List Field) (i : ℕ) (field : Field) → slice_get fields i ≡ Some field → is_named name field ≡ true
    → list_any (is_named name) (drop i fields) ≡ true
named_there name fields i field e named =
    ap (list_any (is_named name)) (field_here fields i field e) ∙ ap (λ (t : Bool). t || list_any (is_named name) (drop (i + 1) fields)) named

pub not_named_there : (name : List ℕ) (fields : List Field) (i : ℕ) (field : Field) → slice_get fields i ≡ Some field → is_named name field ≡ false
    → list_any (is_named name) (drop i fields) ≡ list_any (is_named name) (drop (i + 1) fields)
not_named_there name fields i field e other =
    ap (list_any (is_named name)) (field_here fields i field e) ∙ ap (λ (t : Bool). t || list_any (is_named name) (drop (i + 1) fields)) other

-- ---- what is remembered, in all lines

values_at : (name : List ℕ) (fields : List Field) (i : ℕ) (field : Field) (t : Bool) → slice_get fields i ≡ Some field → is_named name field ≡ t
    → elements_of (values_of name (drop i fields)) ≡ elements_of (value_before t field.value (values_of name (drop (i + 1) fields)))
values_at name fields i field t e named =
    ap (λ (fs : List Field). elements_of (values_of name fs)) (field_here fields i field e)
    ∙ ap (λ (b : Bool). elements_of (value_before b field.value (values_of name (drop (i + 1) fields)))) named

pub line_taken : {S : Type 0} (after : S → List ℕ → S) (tally now : S) (name : List ℕ) (fields : List Field) (i : ℕ) (field : Field) → slice_get fields i ≡ Some field
    → is_named name field ≡ true → now ≡ fold after tally (elements_in field.value)
    → fold after now (elements_of (values_of name (drop (i + 1) fields))) ≡ fold after tally (elements_of (values_of name (drop i fields)))
line_taken {S} after tally now name fields i field e named is =
    sym (ap (fold after tally) (values_at name fields i field true e named)
    ∙ fold-append after tally (elements_in field.value) (elements_of (values_of name (drop (i + 1) fields)))
    ∙ ap (λ (s : S). fold after s (elements_of (values_of name (drop (i + 1) fields)))) (sym is))

pub line_passed : {S : Type 0} (after : S → List ℕ → S) (tally : S) (name : List ℕ) (fields : List Field) (i : ℕ) (field : Field) → slice_get fields i ≡ Some field
    → is_named name field ≡ false
    → fold after tally (elements_of (values_of name (drop (i + 1) fields))) ≡ fold after tally (elements_of (values_of name (drop i fields)))
line_passed {S} after tally name fields i field e named = sym (ap (fold after tally) (values_at name fields i field false e named))

-- ---- blanks

pub last_stays : (text : List ℕ) (last : ℕ) → is_blank last ≡ false → reverse (skip_blanks (reverse (text ++ last ∷ []))) ≡ text ++ last ∷ []
last_stays text last other =
    let turned : reverse (text ++ last ∷ []) ≡ last ∷ reverse text = reverse-append text (last ∷ []) in
    ap (λ (t : List ℕ). reverse (skip_blanks t)) turned ∙ ap reverse (cond-false _ _ _ other) ∙ ap reverse (sym turned) ∙ reverse-reverse (text ++ last ∷ [])

pub last_goes : (text : List ℕ) (last : ℕ) → is_blank last ≡ true → skip_blanks (reverse text) ≡ skip_blanks (reverse (text ++ last ∷ []))
last_goes text last blank =
    sym (ap skip_blanks (reverse-append text (last ∷ [])) ∙ cond-true _ _ _ blank)

-- ---- tests

pub empty_is : (text : List ℕ) (r t : Bool) → r ≡ eqb (length text) 0 → r ≡ t → is_empty text ≡ t
empty_is [] r t e is = sym e ∙ is
empty_is (b ∷ text) r t e is = sym (e ∙ ne_eqb (length (b ∷ text)) 0 (λ none. absurd (omega arith))) ∙ is

pub none_left : {S : Type 0} (after : S → List ℕ → S) (tally : S) (rest : List ℕ) → is_empty rest ≡ true → fold after tally (elements_in rest) ≡ tally
none_left {S} after tally [] e = ap (fold after tally) elements_in-none
none_left {S} after tally (b ∷ rest) e = absurd (cc)
