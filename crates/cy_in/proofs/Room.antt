-- Each stage leaves room for what every continuation still needs.
use Rattle.std.proofs.Common.{ℕ, ◌+◌, ◌-◌, ◌*◌, ◌≤◌, Bool, true, false, List, [], ◌∷◌, arith, cond, leb, ltb, eqb}
use Rattle.std.specs.Prelude.{◌&&◌}
use Rattle.std.specs.Char.{is_digit, digit_value}
use Rattle.std.proofs.lemmas.Bool.{leb-true, leb-false}
use Rattle.cy_event.specs.Heads.{is_blank, is_name_byte}
use Rattle.cy_event.specs.Bodies.{behind_line, behind_size, advanced, due, first_stage, in_name, is_bad, is_extension_byte, is_over, is_trailer_byte, next_stage, scan_byte, scan_bytes, with_digit}
use Rattle.cy_event.specs.declared.framing.Framing.{Framing}
use Rattle.cy_event.specs.declared.framing.Framing.TheVariants as framing
use Rattle.cy_event.specs.declared.body.TheConstants.{GREATEST_CHUNK, GREATEST_LINE, MOST_DIGITS}
use Rattle.cy_event.specs.declared.body.BodyMark.{BodyMark}
use Rattle.cy_event.specs.declared.body.BodyStage.{BodyStage}
use Rattle.cy_event.specs.declared.body.BodyStage.TheVariants as stage
use Rattle.cy_in.proofs.Choices.{chosen}

-- what every continuation still needs is within the limits
abbrev pub HasRoom : ℕ → BodyStage → Type 0
HasRoom max (stage.Counted n) = 1 ≤ n
HasRoom max (stage.InBlanks l v) = l + 3 ≤ GREATEST_LINE
HasRoom max (stage.InChunk n) = 1 ≤ n
HasRoom max (stage.FieldDue t) = t + 2 ≤ max
HasRoom max (stage.InName t) = t + 5 ≤ max
HasRoom max (stage.InValue t) = t + 4 ≤ max
HasRoom max (stage.FieldEnds t) = t + 3 ≤ max
HasRoom max _ = Unit {0}

-- ---- one byte more

within_room : (max n limit : ℕ) (s : BodyStage) → (n ≤ limit → HasRoom max s) → HasRoom max (cond (leb n limit) s stage.Malformed)
within_room max n limit s room = chosen (HasRoom max) (leb n limit) s stage.Malformed (λ e. room (leb-true n limit e)) (λ e. tt)

under_room : (max n : ℕ) (s : BodyStage) → (n ≤ max → HasRoom max s) → HasRoom max (cond (leb n max) s stage.TooLong)
under_room max n s room = chosen (HasRoom max) (leb n max) s stage.TooLong (λ e. room (leb-true n max e)) (λ e. tt)

digit_room : (max d v digit : ℕ) → HasRoom max (with_digit d v digit)
digit_room max d v digit =
    chosen (HasRoom max) (ltb d MOST_DIGITS && leb (16 * v + digit) GREATEST_CHUNK) (stage.InSize (d + 1) (16 * v + digit)) stage.Malformed
    (λ e. tt) (λ e. tt)

line_room : (max v : ℕ) → 2 ≤ max → HasRoom max (behind_line v)
line_room max v least =
    chosen (HasRoom max) (leb v 0) (stage.FieldDue 0) (stage.InChunk v) (λ e. omega arith) (λ e. omega (arith, leb-false v 0 e))

size_room : (max l v b : ℕ) → HasRoom max (behind_size l v b)
size_room max l v b =
    chosen (HasRoom max) (is_blank b) _ _
    (λ e. within_room max (l + 4) GREATEST_LINE (stage.InBlanks (l + 1) v) (λ short. omega arith))
    (λ e. chosen (HasRoom max) (eqb b 59) _ stage.Malformed
    (λ e. within_room max (l + 3) GREATEST_LINE (stage.InExtension (l + 1) v) (λ short. tt)) (λ e. tt))

name_room : (max t b : ℕ) → HasRoom max (in_name max t b)
name_room max t b =
    chosen (HasRoom max) (is_name_byte b) _ stage.Malformed
    (λ e. under_room max (t + 6) (stage.InName (t + 1)) (λ short. omega arith)) (λ e. tt)

due_room : (max byte b : ℕ) (s : BodyStage) → HasRoom max s → HasRoom max (due byte b s)
due_room max byte b s room = chosen (HasRoom max) (eqb b byte) s stage.Malformed (λ e. room) (λ e. tt)

next_room : (max : ℕ) (s : BodyStage) (b : ℕ) → 2 ≤ max → HasRoom max s → HasRoom max (next_stage max s b)
next_room max stage.Whole b least room = tt
next_room max (stage.Counted n) b least room =
    chosen (HasRoom max) (leb n 1) stage.Whole (stage.Counted (n - 1)) (λ e. tt) (λ e. omega (arith, leb-false n 1 e))
next_room max stage.SizeDue b least room =
    chosen (HasRoom max) (is_digit b 16) _ stage.Malformed (λ e. digit_room max 0 0 (digit_value b)) (λ e. tt)
next_room max (stage.InSize d v) b least room =
    chosen (HasRoom max) (is_digit b 16) _ _ (λ e. digit_room max d v (digit_value b))
    (λ e. chosen (HasRoom max) (eqb b 13) (stage.LineEnds v) _ (λ e. tt) (λ e. size_room max d v b))
next_room max (stage.InBlanks l v) b least room = size_room max l v b
next_room max (stage.InExtension l v) b least room =
    chosen (HasRoom max) (eqb b 13) (stage.LineEnds v) _ (λ e. tt)
    (λ e. chosen (HasRoom max) (is_extension_byte b) _ stage.Malformed
    (λ e. within_room max (l + 3) GREATEST_LINE (stage.InExtension (l + 1) v) (λ short. tt)) (λ e. tt))
next_room max (stage.LineEnds v) b least room = due_room max 10 b (behind_line v) (line_room max v least)
next_room max (stage.InChunk n) b least room =
    chosen (HasRoom max) (leb n 1) stage.ChunkEnds (stage.InChunk (n - 1)) (λ e. tt) (λ e. omega (arith, leb-false n 1 e))
next_room max stage.ChunkEnds b least room = due_room max 13 b stage.ChunkEnded tt
next_room max stage.ChunkEnded b least room = due_room max 10 b stage.SizeDue tt
next_room max (stage.FieldDue t) b least room =
    chosen (HasRoom max) (eqb b 13) _ _ (λ e. under_room max (t + 2) stage.LastEnds (λ short. tt)) (λ e. name_room max t b)
next_room max (stage.InName t) b least room =
    chosen (HasRoom max) (eqb b 58) _ _ (λ e. under_room max (t + 5) (stage.InValue (t + 1)) (λ short. omega arith)) (λ e. name_room max t b)
next_room max (stage.InValue t) b least room =
    chosen (HasRoom max) (eqb b 13) _ _ (λ e. under_room max (t + 4) (stage.FieldEnds (t + 1)) (λ short. omega arith))
    (λ e. chosen (HasRoom max) (is_trailer_byte b) _ stage.Malformed
    (λ e. under_room max (t + 5) (stage.InValue (t + 1)) (λ short. omega arith)) (λ e. tt))
next_room max (stage.FieldEnds t) b least room =
    due_room max 10 b _ (under_room max (t + 3) (stage.FieldDue (t + 1)) (λ short. omega arith))
next_room max stage.LastEnds b least room = due_room max 10 b stage.Whole tt
next_room max stage.Malformed b least room = tt
next_room max stage.TooLong b least room = tt

-- ---- many bytes

byte_room : (max : ℕ) (m : BodyMark) (b : ℕ) → 2 ≤ max → HasRoom max m.stage → HasRoom max (scan_byte max m b).stage
byte_room max m b least room =
    by_over (is_over m.stage) (is_bad (next_stage max m.stage b))
  where
    by_over : (over wrong : Bool) → HasRoom max (cond over m (cond wrong (record m { stage = next_stage max m.stage b }) (advanced m (next_stage max m.stage b)))).stage
    by_over true wrong = room
    by_over false true = next_room max m.stage b least room
    by_over false false = next_room max m.stage b least room

pub scan_room : (max : ℕ) (m : BodyMark) (bytes : List ℕ) → 2 ≤ max → HasRoom max m.stage → HasRoom max (scan_bytes max m bytes).stage
scan_room max m [] least room = room
scan_room max m (b ∷ bytes) least room = scan_room max (scan_byte max m b) bytes least (byte_room max m b least room)

pub first_room : (max : ℕ) (f : Framing) → HasRoom max (first_stage f)
first_room max framing.None = tt
first_room max (framing.Length n) =
    chosen (HasRoom max) (leb n 0) stage.Whole (stage.Counted n) (λ e. tt) (λ e. omega (arith, leb-false n 0 e))
first_room max framing.Chunked = tt
