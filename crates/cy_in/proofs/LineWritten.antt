-- The line before a chunk, as it is written, is read to its end.
use Rattle.std.proofs.Common.{◌≡◌, ℕ, ◌+◌, ◌*◌, ◌≤◌, ◌<◌, Bool, true, false, Option, Some, None, List, [], ◌∷◌, ◌++◌, length, refl, sym, ap, ◌∙◌, subst, arith, cond, leb, eqb, length-append, append_assoc, inl, inr}
use Rattle.std.specs.Prelude.{◌⊎◌, ◌||◌, fold}
use Rattle.std.specs.List.{list_all}
use Rattle.std.specs.Char.{is_digit, digit_value}
use Rattle.std.proofs.lemmas.Bool.{lt-ltb, le-leb, eqb-true, and_parts}
use Rattle.cy_event.specs.Heads.{is_blank}
use Rattle.cy_event.specs.Bodies.{behind_line, is_bad, is_extension_byte, next_stage, with_digit, within_line}
use Rattle.cy_event.specs.BodyGrammar.{Extension, IsExtension, IsLine, SizeLine, extension_text, line_end, line_text, size_of, size_with}
use Rattle.cy_event.specs.declared.body.TheConstants.{GREATEST_CHUNK, GREATEST_LINE, MOST_DIGITS}
use Rattle.cy_event.specs.declared.body.BodyStage.TheVariants as stage
use Rattle.cy_in.proofs.Reaching.{Reaches, cons, join, of_bytes, one, stay, to_stage}
use Rattle.cy_in.proofs.Choices.{neither, where_not, where_yes}

-- ---- digits

with_fits : (d v digit : ℕ) → d < MOST_DIGITS → 16 * v + digit ≤ GREATEST_CHUNK → with_digit d v digit ≡ stage.InSize (d + 1) (16 * v + digit)
with_fits d v digit few small = rw (lt-ltb d MOST_DIGITS few, le-leb (16 * v + digit) GREATEST_CHUNK small)

fold_more : (v : ℕ) (ds : List ℕ) → v ≤ fold size_with v ds
fold_more v [] = omega arith
fold_more v (b ∷ ds) = omega (arith, fold_more (size_with v b) ds)

abbrev hex : ℕ → Bool
hex b = is_digit b 16

digits_reach : (max d v : ℕ) (ds : List ℕ) → list_all hex ds ≡ true → d + length ds ≤ MOST_DIGITS → fold size_with v ds ≤ GREATEST_CHUNK →
    Reaches max (stage.InSize d v) ds [] (stage.InSize (d + length ds) (fold size_with v ds))
digits_reach max d v [] all few small =
    let e : d ≡ d + 0 = omega arith in
    to_stage max (stage.InSize d v) [] [] _ _ (stay max (stage.InSize d v)) (ap (λ (n : ℕ). stage.InSize n v) e)
digits_reach max d v (b ∷ ds) all few small =
    let parts = and_parts (hex b) (list_all hex ds) all in
    let within : size_with v b ≤ GREATEST_CHUNK = omega (arith, fold_more (size_with v b) ds) in
    let step : next_stage max (stage.InSize d v) b ≡ stage.InSize (d + 1) (size_with v b) =
    where_yes (hex b) _ _ parts.0 ∙ with_fits d v (digit_value b) (omega arith) within in
    let e : d + 1 + length ds ≡ d + length (b ∷ ds) = omega arith in
    cons max (stage.InSize d v) b (stage.InSize (d + 1) (size_with v b)) ds [] _
    (one max (stage.InSize d v) b (stage.InSize (d + 1) (size_with v b)) step refl refl refl)
    (to_stage max _ ds [] _ _ (digits_reach max (d + 1) (size_with v b) ds parts.1 (omega arith) small)
    (ap (λ (n : ℕ). stage.InSize n (fold size_with (size_with v b) ds)) e))

first_digits : (max : ℕ) (ds : List ℕ) → 1 ≤ length ds → list_all hex ds ≡ true → length ds ≤ MOST_DIGITS → size_of ds ≤ GREATEST_CHUNK →
    Reaches max stage.SizeDue ds [] (stage.InSize (length ds) (size_of ds))
first_digits max [] some all few small = absurd (omega arith)
first_digits max (b ∷ ds) some all few small =
    let parts = and_parts (hex b) (list_all hex ds) all in
    let within : size_with 0 b ≤ GREATEST_CHUNK = omega (arith, fold_more (size_with 0 b) ds) in
    let step : next_stage max stage.SizeDue b ≡ stage.InSize 1 (size_with 0 b) =
    where_yes (hex b) _ _ parts.0 ∙ with_fits 0 0 (digit_value b) (omega arith) within in
    let e : 1 + length ds ≡ length (b ∷ ds) = omega arith in
    cons max stage.SizeDue b (stage.InSize 1 (size_with 0 b)) ds [] _
    (one max stage.SizeDue b (stage.InSize 1 (size_with 0 b)) step refl refl refl)
    (to_stage max _ ds [] _ _ (digits_reach max 1 (size_with 0 b) ds parts.1 (omega arith) small)
    (ap (λ (n : ℕ). stage.InSize n (fold size_with (size_with 0 b) ds)) e))

-- ---- the end of a line

good_line : (v : ℕ) → is_bad (behind_line v) ≡ false
good_line v = good (leb v 0) v
  where
    good : (t : Bool) (n : ℕ) → is_bad (cond t (stage.FieldDue 0) (stage.InChunk n)) ≡ false
    good true n = refl
    good false n = refl

pub line_ends : (max v : ℕ) → Reaches max (stage.LineEnds v) (10 ∷ []) [] (behind_line v)
line_ends max v = one max (stage.LineEnds v) 10 (behind_line v) refl refl (good_line v) refl

pub size_ends : (max d v : ℕ) → Reaches max (stage.InSize d v) line_end [] (behind_line v)
size_ends max d v =
    cons max (stage.InSize d v) 13 (stage.LineEnds v) (10 ∷ []) [] _
    (one max (stage.InSize d v) 13 (stage.LineEnds v) refl refl refl refl) (line_ends max v)

pub text_ends : (max d v : ℕ) → Reaches max (stage.InExtension d v) line_end [] (behind_line v)
text_ends max d v =
    cons max (stage.InExtension d v) 13 (stage.LineEnds v) (10 ∷ []) [] _
    (one max (stage.InExtension d v) 13 (stage.LineEnds v) refl refl refl refl) (line_ends max v)

-- ---- the extension

text_reach : (max d v : ℕ) (text : List ℕ) → list_all is_extension_byte text ≡ true → d + length text + 2 ≤ GREATEST_LINE →
    Reaches max (stage.InExtension d v) (text ++ line_end) [] (behind_line v)
text_reach max d v [] all short = text_ends max d v
text_reach max d v (b ∷ text) all short =
    let parts = and_parts (is_extension_byte b) (list_all is_extension_byte text) all in
    let here : d + 3 ≤ GREATEST_LINE = omega arith in
    let step : next_stage max (stage.InExtension d v) b ≡ stage.InExtension (d + 1) v =
    where_not (eqb b 13) _ _ (neither (eqb b 13) (eqb b 10) parts.0)
    ∙ (where_yes (is_extension_byte b) _ _ parts.0 ∙ where_yes (leb (d + 3) GREATEST_LINE) _ _ (le-leb (d + 3) GREATEST_LINE here)) in
    cons max (stage.InExtension d v) b (stage.InExtension (d + 1) v) (text ++ line_end) [] _
    (one max (stage.InExtension d v) b (stage.InExtension (d + 1) v) step refl refl refl)
    (text_reach max (d + 1) v text parts.1 (omega arith))

is_either : (x y : Bool) → (x || y) ≡ true → (x ≡ true) ⊎ (y ≡ true)
is_either true y h = inl refl
is_either false y h = inr h

blank_is : (b : ℕ) → is_blank b ≡ true → (b ≡ 32) ⊎ (b ≡ 9)
blank_is b blank =
    elim (is_either (eqb b 32) (eqb b 9) blank) [ inl h ↦ inl (eqb-true b 32 h) | inr h ↦ inr (eqb-true b 9 h) ]

by_blank : (P : ℕ → Type 0) (b : ℕ) → is_blank b ≡ true → P 32 → P 9 → P b
by_blank P b blank at_space at_tab =
    elim (blank_is b blank) [ inl e ↦ subst P (sym e) at_space | inr e ↦ subst P (sym e) at_tab ]

size_blank : (max d v b : ℕ) → is_blank b ≡ true → d + 4 ≤ GREATEST_LINE → next_stage max (stage.InSize d v) b ≡ stage.InBlanks (d + 1) v
size_blank max d v b blank short =
    by_blank (λ x. next_stage max (stage.InSize d v) x ≡ stage.InBlanks (d + 1) v) b blank
    (where_yes (leb (d + 4) GREATEST_LINE) _ _ (le-leb (d + 4) GREATEST_LINE short)) (where_yes (leb (d + 4) GREATEST_LINE) _ _ (le-leb (d + 4) GREATEST_LINE short))

blanks_blank : (max d v b : ℕ) → is_blank b ≡ true → d + 4 ≤ GREATEST_LINE → next_stage max (stage.InBlanks d v) b ≡ stage.InBlanks (d + 1) v
blanks_blank max d v b blank short =
    by_blank (λ x. next_stage max (stage.InBlanks d v) x ≡ stage.InBlanks (d + 1) v) b blank
    (where_yes (leb (d + 4) GREATEST_LINE) _ _ (le-leb (d + 4) GREATEST_LINE short)) (where_yes (leb (d + 4) GREATEST_LINE) _ _ (le-leb (d + 4) GREATEST_LINE short))

semicolon_step : (d v : ℕ) → d + 3 ≤ GREATEST_LINE → within_line (d + 3) (stage.InExtension (d + 1) v) ≡ stage.InExtension (d + 1) v
semicolon_step d v short = where_yes (leb (d + 3) GREATEST_LINE) _ _ (le-leb (d + 3) GREATEST_LINE short)

pub blanks_reach : (max d v : ℕ) (blanks text : List ℕ) → list_all is_blank blanks ≡ true → list_all is_extension_byte text ≡ true →
    d + length blanks + 1 + length text + 2 ≤ GREATEST_LINE →
    Reaches max (stage.InBlanks d v) (blanks ++ (59 ∷ (text ++ line_end))) [] (behind_line v)
blanks_reach max d v [] text blank all short =
    cons max (stage.InBlanks d v) 59 (stage.InExtension (d + 1) v) (text ++ line_end) [] _
    (one max (stage.InBlanks d v) 59 (stage.InExtension (d + 1) v) (semicolon_step d v (omega arith)) refl refl refl)
    (text_reach max (d + 1) v text all (omega arith))
blanks_reach max d v (b ∷ blanks) text blank all short =
    let parts = and_parts (is_blank b) (list_all is_blank blanks) blank in
    cons max (stage.InBlanks d v) b (stage.InBlanks (d + 1) v) (blanks ++ (59 ∷ (text ++ line_end))) [] _
    (one max (stage.InBlanks d v) b (stage.InBlanks (d + 1) v) (blanks_blank max d v b parts.0 (omega arith)) refl refl refl)
    (blanks_reach max (d + 1) v blanks text parts.1 all (omega arith))

extension_reach : (max d v : ℕ) (blanks text : List ℕ) → list_all is_blank blanks ≡ true → list_all is_extension_byte text ≡ true →
    d + length blanks + 1 + length text + 2 ≤ GREATEST_LINE →
    Reaches max (stage.InSize d v) (blanks ++ (59 ∷ (text ++ line_end))) [] (behind_line v)
extension_reach max d v [] text blank all short =
    cons max (stage.InSize d v) 59 (stage.InExtension (d + 1) v) (text ++ line_end) [] _
    (one max (stage.InSize d v) 59 (stage.InExtension (d + 1) v) (semicolon_step d v (omega arith)) refl refl refl)
    (text_reach max (d + 1) v text all (omega arith))
extension_reach max d v (b ∷ blanks) text blank all short =
    let parts = and_parts (is_blank b) (list_all is_blank blanks) blank in
    cons max (stage.InSize d v) b (stage.InBlanks (d + 1) v) (blanks ++ (59 ∷ (text ++ line_end))) [] _
    (one max (stage.InSize d v) b (stage.InBlanks (d + 1) v) (size_blank max d v b parts.0 (omega arith)) refl refl refl)
    (blanks_reach max (d + 1) v blanks text parts.1 all (omega arith))

behind_digits : (max d v : ℕ) (e : Option Extension) → IsExtension e → d + length (extension_text e ++ line_end) ≤ GREATEST_LINE →
    Reaches max (stage.InSize d v) (extension_text e ++ line_end) [] (behind_line v)
behind_digits max d v None right short = size_ends max d v
behind_digits max d v (Some e) right short =
    of_bytes max (stage.InSize d v) _ _ [] _
    (extension_reach max d v e.blanks e.text right.0 right.1
    (omega (arith, length-append (e.blanks ++ (59 ∷ e.text)) line_end, length-append e.blanks (59 ∷ e.text))))
    (sym (append_assoc e.blanks (59 ∷ e.text) line_end))

pub line_reach : (max : ℕ) (l : SizeLine) → IsLine l → Reaches max stage.SizeDue (line_text l) [] (behind_line (size_of l.digits))
line_reach max l right =
    join max stage.SizeDue l.digits [] (stage.InSize (length l.digits) (size_of l.digits)) (extension_text l.extension ++ line_end) [] _
    (first_digits max l.digits right.some right.digits right.few right.size)
    (behind_digits max (length l.digits) (size_of l.digits) l.extension right.extension
    (omega (arith, right.short, length-append l.digits (extension_text l.extension ++ line_end))))
