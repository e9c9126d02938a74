-- What a greater limit of trailers changes: it makes good what was too long, and nothing else.
use Rattle.std.proofs.Common.{◌≡◌, ℕ, ◌+◌, ◌-◌, ◌*◌, ◌≤◌, Bool, true, false, refl, sym, ap, ◌∙◌, arith, cond, leb, ltb, eqb, subst}
use Rattle.std.specs.Prelude.{◌&&◌}
use Rattle.std.specs.Char.{is_digit, digit_value}
use Rattle.std.proofs.lemmas.Bool.{leb-true}
use Rattle.cy_event.specs.Heads.{is_blank, is_name_byte}
use Rattle.cy_event.specs.Bodies.{behind_line, behind_size, in_name, is_bad, is_extension_byte, is_over, is_trailer_byte, next_stage, with_digit, within_limit}
use Rattle.cy_event.specs.declared.body.TheConstants.{GREATEST_CHUNK, GREATEST_LINE, MOST_DIGITS}
use Rattle.cy_event.specs.declared.body.BodyStage.{BodyStage}
use Rattle.cy_event.specs.declared.body.BodyStage.TheVariants as stage
use Rattle.cy_in.proofs.Choices.{chosen}
use Rattle.cy_in.proofs.TrailersWritten.{fits}

-- what a greater limit makes of a stage: good, where it was too long and the limit is great enough; else the same
abbrev Lifts : Type 0 → BodyStage → BodyStage → Type 0
Lifts Enough stage.TooLong greater = Enough → is_bad greater ≡ false
Lifts Enough s greater = greater ≡ s

-- a stage that a greater limit leaves as it is
abbrev Stays : Type 0 → BodyStage → Type 0
Stays Enough s = Lifts Enough s s

lifts_good : (Enough : Type 0) (s : BodyStage) → is_bad s ≡ false → Stays Enough s
lifts_good Enough stage.Malformed good = cc
lifts_good Enough stage.TooLong good = cc
lifts_good Enough _ good = refl

either_lifts : (Enough : Type 0) (t : Bool) (x y x' y' : BodyStage) → Lifts Enough x x' → Lifts Enough y y' → Lifts Enough (cond t x y) (cond t x' y')
either_lifts Enough true x y x' y' first second = first
either_lifts Enough false x y x' y' first second = second

-- ---- one byte

either_stays : (Enough : Type 0) (t : Bool) (x y : BodyStage) → Stays Enough x → Stays Enough y → Stays Enough (cond t x y)
either_stays Enough t x y first second = either_lifts Enough t x y x y first second

within_lifts : (max k t n : ℕ) (s : BodyStage) → is_bad s ≡ false → t ≤ n → Lifts (n ≤ max + k) (within_limit max t s) (within_limit (max + k) t s)
within_lifts max k t n s good few =
    chosen (λ x. Lifts (n ≤ max + k) x (within_limit (max + k) t s)) (leb t max) s stage.TooLong
    (λ e. let short : t ≤ max + k = omega (arith, leb-true t max e) in
    subst (λ x. Lifts (n ≤ max + k) s x) (sym (fits (max + k) t s short)) (lifts_good (n ≤ max + k) s good))
    (λ e enough. let short : t ≤ max + k = omega arith in ap is_bad (fits (max + k) t s short) ∙ good)

name_lifts : (max k t b : ℕ) → Lifts (t + 6 ≤ max + k) (in_name max t b) (in_name (max + k) t b)
name_lifts max k t b =
    either_lifts (t + 6 ≤ max + k) (is_name_byte b) _ stage.Malformed _ stage.Malformed
    (within_lifts max k (t + 6) (t + 6) (stage.InName (t + 1)) refl (omega arith)) refl

line_stays : (Enough : Type 0) (v : ℕ) → Stays Enough (behind_line v)
line_stays Enough v = either_stays Enough (leb v 0) (stage.FieldDue 0) (stage.InChunk v) refl refl

digit_stays : (Enough : Type 0) (d v digit : ℕ) → Stays Enough (with_digit d v digit)
digit_stays Enough d v digit =
    either_stays Enough (ltb d MOST_DIGITS && leb (16 * v + digit) GREATEST_CHUNK) (stage.InSize (d + 1) (16 * v + digit)) stage.Malformed refl refl

size_stays : (Enough : Type 0) (l v b : ℕ) → Stays Enough (behind_size l v b)
size_stays Enough l v b =
    either_stays Enough (is_blank b) _ _
    (either_stays Enough (leb (l + 4) GREATEST_LINE) (stage.InBlanks (l + 1) v) stage.Malformed refl refl)
    (either_stays Enough (eqb b 59) _ stage.Malformed
    (either_stays Enough (leb (l + 3) GREATEST_LINE) (stage.InExtension (l + 1) v) stage.Malformed refl refl) refl)

-- a limit that lets any byte come
abbrev pub enough : BodyStage → ℕ
enough (stage.FieldDue t) = t + 6
enough (stage.InName t) = t + 6
enough (stage.InValue t) = t + 6
enough (stage.FieldEnds t) = t + 6
enough _ = 0

next_lifts : (max k : ℕ) (s : BodyStage) (b : ℕ) → is_over s ≡ false →
    Lifts (enough s ≤ max + k) (next_stage max s b) (next_stage (max + k) s b)
next_lifts max k stage.Whole b going = cc
next_lifts max k (stage.Counted n) b going = either_stays (0 ≤ max + k) (leb n 1) stage.Whole (stage.Counted (n - 1)) refl refl
next_lifts max k stage.SizeDue b going =
    either_stays (0 ≤ max + k) (is_digit b 16) _ stage.Malformed (digit_stays (0 ≤ max + k) 0 0 (digit_value b)) refl
next_lifts max k (stage.InSize d v) b going =
    either_stays (0 ≤ max + k) (is_digit b 16) _ _ (digit_stays (0 ≤ max + k) d v (digit_value b))
    (either_stays (0 ≤ max + k) (eqb b 13) (stage.LineEnds v) _ refl (size_stays (0 ≤ max + k) d v b))
next_lifts max k (stage.InBlanks l v) b going = size_stays (0 ≤ max + k) l v b
next_lifts max k (stage.InExtension l v) b going =
    either_stays (0 ≤ max + k) (eqb b 13) (stage.LineEnds v) _ refl
    (either_stays (0 ≤ max + k) (is_extension_byte b) _ stage.Malformed
    (either_stays (0 ≤ max + k) (leb (l + 3) GREATEST_LINE) (stage.InExtension (l + 1) v) stage.Malformed refl refl) refl)
next_lifts max k (stage.LineEnds v) b going =
    either_stays (0 ≤ max + k) (eqb b 10) _ stage.Malformed (line_stays (0 ≤ max + k) v) refl
next_lifts max k (stage.InChunk n) b going = either_stays (0 ≤ max + k) (leb n 1) stage.ChunkEnds (stage.InChunk (n - 1)) refl refl
next_lifts max k stage.ChunkEnds b going = either_stays (0 ≤ max + k) (eqb b 13) stage.ChunkEnded stage.Malformed refl refl
next_lifts max k stage.ChunkEnded b going = either_stays (0 ≤ max + k) (eqb b 10) stage.SizeDue stage.Malformed refl refl
next_lifts max k (stage.FieldDue t) b going =
    either_lifts (t + 6 ≤ max + k) (eqb b 13) _ _ _ _ (within_lifts max k (t + 2) (t + 6) stage.LastEnds refl (omega arith)) (name_lifts max k t b)
next_lifts max k (stage.InName t) b going =
    either_lifts (t + 6 ≤ max + k) (eqb b 58) _ _ _ _ (within_lifts max k (t + 5) (t + 6) (stage.InValue (t + 1)) refl (omega arith)) (name_lifts max k t b)
next_lifts max k (stage.InValue t) b going =
    either_lifts (t + 6 ≤ max + k) (eqb b 13) _ _ _ _ (within_lifts max k (t + 4) (t + 6) (stage.FieldEnds (t + 1)) refl (omega arith))
    (either_lifts (t + 6 ≤ max + k) (is_trailer_byte b) _ stage.Malformed _ stage.Malformed
    (within_lifts max k (t + 5) (t + 6) (stage.InValue (t + 1)) refl (omega arith)) refl)
next_lifts max k (stage.FieldEnds t) b going =
    either_lifts (t + 6 ≤ max + k) (eqb b 10) _ stage.Malformed _ stage.Malformed
    (within_lifts max k (t + 3) (t + 6) (stage.FieldDue (t + 1)) refl (omega arith)) refl
next_lifts max k stage.LastEnds b going = either_stays (0 ≤ max + k) (eqb b 10) stage.Whole stage.Malformed refl refl
next_lifts max k stage.Malformed b going = cc
next_lifts max k stage.TooLong b going = cc

-- what is good stays
good_lifts : (Enough : Type 0) (s greater : BodyStage) → is_bad s ≡ false → Lifts Enough s greater → greater ≡ s
good_lifts Enough stage.Malformed greater good lifts = cc
good_lifts Enough stage.TooLong greater good lifts = cc
good_lifts Enough _ greater good lifts = lifts

pub good_stays : (max k : ℕ) (s : BodyStage) (b : ℕ) → is_over s ≡ false → is_bad (next_stage max s b) ≡ false →
    next_stage (max + k) s b ≡ next_stage max s b
good_stays max k s b going good = good_lifts (enough s ≤ max + k) (next_stage max s b) (next_stage (max + k) s b) good (next_lifts max k s b going)

-- what is malformed stays
pub malformed_stays : (max k : ℕ) (s : BodyStage) (b : ℕ) → is_over s ≡ false → next_stage max s b ≡ stage.Malformed →
    next_stage (max + k) s b ≡ stage.Malformed
malformed_stays max k s b going e = subst (λ x. Lifts (enough s ≤ max + k) x (next_stage (max + k) s b)) e (next_lifts max k s b going)

-- what is too long isn't bad under a limit that is great enough
pub too_long_lifts : (max k : ℕ) (s : BodyStage) (b : ℕ) → is_over s ≡ false → next_stage max s b ≡ stage.TooLong → enough s ≤ max + k →
    is_bad (next_stage (max + k) s b) ≡ false
too_long_lifts max k s b going e few = subst (λ x. Lifts (enough s ≤ max + k) x (next_stage (max + k) s b)) e (next_lifts max k s b going) few
