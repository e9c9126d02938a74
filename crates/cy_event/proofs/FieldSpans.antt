-- The fields that spans cover, where bytes come behind them.
use Rattle.std.proofs.Common.{◌≡◌, ℕ, ◌+◌, ◌-◌, ◌<◌, ◌≤◌, List, [], ◌∷◌, ◌++◌, length, take, drop, map, get_or, slice_range, Some, refl, sym, ap, ◌∙◌, arith, append_assoc, append-nil, length-append, length-drop}
use Rattle.std.specs.List.{All, slice_get}
use Rattle.std.specs.Prelude.{option_map}
use Rattle.std.proofs.lemmas.List.{drop-append-le, take-append-le, drop_at, take_at, map-append}
use Rattle.std.proofs.lemmas.List.Elements.{All-head, All-tail, All-append, All-cons, All-nil, All-weaker}
use Rattle.std.proofs.lemmas.Option.{slice_get-map, slice_get-get_or}
use Rattle.cy_event.specs.HeadRoom.{field_in, IsSpanWithin}
use Rattle.cy_event.specs.declared.head.FieldSpan.{FieldSpan}

-- the field of a number
pub field_is : (bytes : List ℕ) (spans : List FieldSpan) (i : ℕ) (d : FieldSpan) → i < length spans
    → slice_get (map (field_in bytes) spans) i ≡ Some (field_in bytes (get_or spans i d))
field_is bytes spans i d inside =
    slice_get-map (field_in bytes) spans i ∙ ap (option_map (field_in bytes)) (slice_get-get_or spans i d inside)

-- a part stays where bytes come behind it
range-append : (xs more : List ℕ) (a b : ℕ) → a ≤ b → b ≤ length xs → slice_range (xs ++ more) a b ≡ slice_range xs a b
range-append xs more a b ordered inside =
    let fits : b - a ≤ length (drop a xs) = omega (arith, length-drop a xs) in
    ap (take (b - a)) (drop-append-le a xs more (omega arith)) ∙ take-append-le (b - a) (drop a xs) more fits

field_in-append : (xs more : List ℕ) (s : FieldSpan) → IsSpanWithin (length xs) s → field_in (xs ++ more) s ≡ field_in xs s
field_in-append xs more s within =
    let name = range-append xs more s.start s.middle within.0 (omega (arith, within.1, within.2)) in
    let value = range-append xs more s.middle s.end within.1 within.2 in
    λ i. record { name = name i; value = value i }

pub fields-append : (xs more : List ℕ) (spans : List FieldSpan) → All (IsSpanWithin (length xs)) spans
    → map (field_in (xs ++ more)) spans ≡ map (field_in xs) spans
fields-append xs more [] within = refl
fields-append xs more (s ∷ spans) within =
    let first = field_in-append xs more s (All-head (IsSpanWithin (length xs)) s spans within) in
    let later = fields-append xs more spans (All-tail (IsSpanWithin (length xs)) s spans within) in
    λ i. first i ∷ later i

-- the part that came last
range_at : (xs part rest : List ℕ) (a b : ℕ) → a ≡ length xs → b ≡ length xs + length part
    → slice_range ((xs ++ part) ++ rest) a b ≡ part
range_at xs part rest a b first last =
    ap (λ (ys : List ℕ). slice_range ys a b) (append_assoc xs part rest)
    ∙ ap (take (b - a)) (drop_at xs (part ++ rest) a (sym first))
    ∙ take_at part rest (b - a) (omega arith)

-- the spans, and one behind them
pub spans_more : (size more : ℕ) (spans : List FieldSpan) (s : FieldSpan) → size ≤ more → All (IsSpanWithin size) spans → IsSpanWithin more s
    → All (IsSpanWithin more) (spans ++ s ∷ [])
spans_more size more spans s grown within last =
    All-append (IsSpanWithin more) spans (s ∷ [])
    (All-weaker (IsSpanWithin size) (IsSpanWithin more) (λ t w. (w.0, w.1, omega (arith, w.2))) spans within)
    (All-cons (IsSpanWithin more) s [] last (All-nil (IsSpanWithin more)))

-- a name and a value behind the bytes, and the span that covers them
pub fields_more : (bytes name value : List ℕ) (spans : List FieldSpan) (s : FieldSpan) → All (IsSpanWithin (length bytes)) spans
    → s.start ≡ length bytes → s.middle ≡ length bytes + length name → s.end ≡ length bytes + length name + length value
    → map (field_in ((bytes ++ name) ++ value)) (spans ++ s ∷ [])
    ≡ map (field_in bytes) spans ++ record { name = name; value = value } ∷ []
fields_more bytes name value spans s within start middle end =
    let all = (bytes ++ name) ++ value in
    let former : map (field_in all) spans ≡ map (field_in bytes) spans
    = ap (λ (ys : List ℕ). map (field_in ys) spans) (append_assoc bytes name value) ∙ fields-append bytes (name ++ value) spans within in
    let is_name : slice_range all s.start s.middle ≡ name = range_at bytes name value s.start s.middle start middle in
    let is_value : slice_range all s.middle s.end ≡ value
    = ap (λ (ys : List ℕ). slice_range ys s.middle s.end) (sym (append-nil all))
    ∙ range_at (bytes ++ name) value [] s.middle s.end (omega (arith, length-append bytes name)) (omega (arith, length-append bytes name)) in
    map-append (field_in all) spans (s ∷ [])
    ∙ λ i. former i ++ record { name = is_name i; value = is_value i } ∷ []
