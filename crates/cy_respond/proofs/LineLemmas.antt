-- The fields that stand in lines, where a line comes behind them, and how long the lines are.
use Rattle.std.proofs.Common.{◌≡◌, ℕ, ◌+◌, ◌-◌, ◌*◌, ◌≤◌, true, List, [], ◌∷◌, ◌++◌, length, take, drop, map, codes, flat_map, slice_range, refl, sym, ap, ◌∙◌, arith, append_assoc, append-nil, length-append, length-drop}
use Rattle.std.specs.List.{All, list_all}
use Rattle.std.specs.Prelude.{◌&&◌}
use Rattle.std.proofs.lemmas.List.{drop-append-le, take-append-le, drop_at, take_at, map-append}
use Rattle.std.proofs.lemmas.Grind.{flat_map-append}
use Rattle.std.proofs.lemmas.List.Folds.{list_all-append}
use Rattle.std.proofs.lemmas.List.Elements.{All-head, All-tail, All-append, All-cons, All-nil, All-weaker}
use Rattle.cy_event.specs.Answers.{crlf, field_line}
use Rattle.cy_event.specs.Heads.{Field}
use Rattle.cy_respond.specs.Fields.{field_size, may_stand, size_of_field}
use Rattle.cy_respond.specs.FieldLines.{field_at, IsPlaceWithin}
use Rattle.cy_respond.specs.declared.head.FieldPlace.{FieldPlace}

length_of_line : (f : Field) → length (field_line f) ≡ size_of_field f + 4
length_of_line f = simp length-append (omega arith)

-- lines are as long as their names and values, and four bytes more for each
pub length_of_lines : (fields : List Field) → length (flat_map field_line fields) ≡ field_size fields + 4 * length fields
length_of_lines [] = refl
length_of_lines (f ∷ fields) =
    length-append (field_line f) (flat_map field_line fields)
    ∙ omega (arith, length_of_line f, length_of_lines fields)

-- a part stays where bytes come behind it
range-append : (xs more : List ℕ) (a b : ℕ) → a ≤ b → b ≤ length xs → slice_range (xs ++ more) a b ≡ slice_range xs a b
range-append xs more a b ordered inside =
    let fits : b - a ≤ length (drop a xs) = omega (arith, length-drop a xs) in
    ap (take (b - a)) (drop-append-le a xs more (omega arith)) ∙ take-append-le (b - a) (drop a xs) more fits

field_at-append : (xs more : List ℕ) (p : FieldPlace) → IsPlaceWithin (length xs) p → field_at (xs ++ more) p ≡ field_at xs p
field_at-append xs more p within =
    let name = range-append xs more p.start p.colon within.0 (omega (arith, within.1, within.2)) in
    let value = range-append xs more (p.colon + 2) p.end within.1 within.2 in
    λ i. record { name = name i; value = value i }

fields-append : (xs more : List ℕ) (places : List FieldPlace) → All (IsPlaceWithin (length xs)) places
    → map (field_at (xs ++ more)) places ≡ map (field_at xs) places
fields-append xs more [] within = refl
fields-append xs more (p ∷ places) within =
    let first = field_at-append xs more p (All-head (IsPlaceWithin (length xs)) p places within) in
    let later = fields-append xs more places (All-tail (IsPlaceWithin (length xs)) p places within) in
    λ i. first i ∷ later i

-- the part that stands between two others
range_between : (xs part rest : List ℕ) (a b : ℕ) → a ≡ length xs → b ≡ length xs + length part
    → slice_range (xs ++ (part ++ rest)) a b ≡ part
range_between xs part rest a b first last =
    ap (take (b - a)) (drop_at xs (part ++ rest) a (sym first))
    ∙ take_at part rest (b - a) (omega arith)

-- the places, and one behind them
pub places_more : (size more : ℕ) (places : List FieldPlace) (p : FieldPlace) → size ≤ more → All (IsPlaceWithin size) places → IsPlaceWithin more p
    → All (IsPlaceWithin more) (places ++ p ∷ [])
places_more size more places p grown within last =
    All-append (IsPlaceWithin more) places (p ∷ [])
    (All-weaker (IsPlaceWithin size) (IsPlaceWithin more) (λ t w. (w.0, w.1, omega (arith, w.2))) places within)
    (All-cons (IsPlaceWithin more) p [] last (All-nil (IsPlaceWithin more)))

name_stands : (lines name value : List ℕ) → lines ++ field_line (record { name = name; value = value }) ≡ lines ++ (name ++ (codes ": " ++ (value ++ crlf)))
name_stands lines name value = simp append_assoc

value_stands : (lines name value : List ℕ) → lines ++ field_line (record { name = name; value = value }) ≡ (lines ++ (name ++ codes ": ")) ++ (value ++ crlf)
value_stands lines name value = simp append_assoc

-- a line behind the lines, and the place where it stands
pub fields_more : (lines name value : List ℕ) (places : List FieldPlace) (p : FieldPlace) → All (IsPlaceWithin (length lines)) places
    → p.start ≡ length lines → p.colon ≡ length lines + length name → p.end ≡ length lines + length name + 2 + length value
    → map (field_at (lines ++ field_line (record { name = name; value = value }))) (places ++ p ∷ [])
    ≡ map (field_at lines) places ++ record { name = name; value = value } ∷ []
fields_more lines name value places p within start colon end =
    let line = field_line (record { name = name; value = value }) in
    let all = lines ++ line in
    let former : map (field_at all) places ≡ map (field_at lines) places = fields-append lines line places within in
    let before : length (lines ++ (name ++ codes ": ")) ≡ length lines + length name + 2 = simp length-append (omega arith) in
    let is_name : slice_range all p.start p.colon ≡ name
    = ap (λ (ys : List ℕ). slice_range ys p.start p.colon) (name_stands lines name value)
    ∙ range_between lines name (codes ": " ++ (value ++ crlf)) p.start p.colon start colon in
    let is_value : slice_range all (p.colon + 2) p.end ≡ value
    = ap (λ (ys : List ℕ). slice_range ys (p.colon + 2) p.end) (value_stands lines name value)
    ∙ range_between (lines ++ (name ++ codes ": ")) value crlf (p.colon + 2) p.end (omega arith) (omega arith) in
    map-append (field_at all) places (p ∷ [])
    ∙ λ i. former i ++ record { name = is_name i; value = is_value i } ∷ []

-- the line of a field that comes last
pub lines_more : (fields : List Field) (f : Field) → flat_map field_line (fields ++ f ∷ []) ≡ flat_map field_line fields ++ field_line f
lines_more fields f = flat_map-append field_line fields (f ∷ []) ∙ ap (λ (xs : List ℕ). flat_map field_line fields ++ xs) (append-nil (field_line f))

-- a field that may stand behind fields that may
pub stand_more : (fields : List Field) (f : Field) → list_all may_stand fields ≡ true → may_stand f ≡ true → list_all may_stand (fields ++ f ∷ []) ≡ true
stand_more fields f all last = list_all-append may_stand fields (f ∷ []) ∙ λ i. all i && (last i && true)
