-- The body behind a head, read byte by byte (RFC 9112, sections 6 and 7.1). A mark is a place in a body: how many bytes
-- stand before it, how many of them are content, and what may come next.
use Rattle.std.specs.Prelude.{ℕ, zero, suc, ◌+◌, ◌-◌, ◌*◌, Bool, true, false, ◌&&◌, ◌||◌, not, ◌==◌, nat_lt, nat_le, List, [], ◌∷◌, ◌++◌, if◌then◌else◌, ⊤}
use Rattle.std.specs.Char.{is_digit, digit_value}
use Rattle.cy_event.specs.Heads.{is_blank, is_name_byte, colon, carriage_return, line_feed}
use Rattle.cy_event.specs.declared.framing.Framing.{Framing}
use Rattle.cy_event.specs.declared.framing.Framing.TheVariants as framing
use Rattle.cy_event.specs.declared.body.BodyStage.{BodyStage}
use Rattle.cy_event.specs.declared.body.BodyStage.TheVariants as stage
use Rattle.cy_event.specs.declared.body.BodyMark.{BodyMark}
use Rattle.cy_event.specs.declared.body.TheConstants.{GREATEST_CHUNK, GREATEST_LINE, MOST_DIGITS}

-- ---- what may come next

abbrev pub semicolon : ℕ
semicolon = 59

-- a byte of a chunk's extension
abbrev pub is_extension_byte : ℕ → Bool
is_extension_byte b = not (b == carriage_return || b == line_feed)

-- a byte of a trailer's value
abbrev pub is_trailer_byte : ℕ → Bool
is_trailer_byte b = not (b == carriage_return || (b == line_feed || b == 0))

-- so many bytes are left, the next of which is content
abbrev pub counted_down : ℕ → BodyStage
counted_down n = if nat_le n 1 then stage.Whole else stage.Counted (n - 1)

abbrev pub chunk_down : ℕ → BodyStage
chunk_down n = if nat_le n 1 then stage.ChunkEnds else stage.InChunk (n - 1)

-- a digit came behind so many digits of a size: at most 16, of a size of at most 2^62
abbrev pub with_digit : ℕ → ℕ → ℕ → BodyStage
with_digit digits size digit =
    if nat_lt digits MOST_DIGITS && nat_le (16 * size + digit) GREATEST_CHUNK
    then stage.InSize (digits + 1) (16 * size + digit) else stage.Malformed

-- the stage, where so many bytes of a chunk's line are within the limit
abbrev pub within_line : ℕ → BodyStage → BodyStage
within_line line next = if nat_le line GREATEST_LINE then next else stage.Malformed

-- Behind the size or a blank after it, where so many bytes of the line came. A blank needs the semicolon and CR LF
-- behind it, a semicolon CR LF.
abbrev pub behind_size : ℕ → ℕ → ℕ → BodyStage
behind_size line size b =
    if is_blank b then within_line (line + 4) (stage.InBlanks (line + 1) size)
    else if b == semicolon then within_line (line + 3) (stage.InExtension (line + 1) size)
    else stage.Malformed

-- a digit of the size, its end, or what stands behind it
abbrev pub in_size : ℕ → ℕ → ℕ → BodyStage
in_size digits size b =
    if is_digit b 16 then with_digit digits size (digit_value b)
    else if b == carriage_return then stage.LineEnds size
    else behind_size digits size b

-- a byte of the extension needs CR LF behind it
abbrev pub in_extension : ℕ → ℕ → ℕ → BodyStage
in_extension line size b =
    if b == carriage_return then stage.LineEnds size
    else if is_extension_byte b then within_line (line + 3) (stage.InExtension (line + 1) size)
    else stage.Malformed

-- a chunk of this size begins, or the trailers where it is 0
abbrev pub behind_line : ℕ → BodyStage
behind_line size = if nat_le size 0 then stage.FieldDue 0 else stage.InChunk size

-- the stage, where so many bytes of trailers are within the limit
abbrev pub within_limit : ℕ → ℕ → BodyStage → BodyStage
within_limit max_trailer trailers next = if nat_le trailers max_trailer then next else stage.TooLong

-- a byte of a name needs the colon, the CR LF of its line and the last CR LF behind it
abbrev pub in_name : ℕ → ℕ → ℕ → BodyStage
in_name max_trailer trailers b =
    if is_name_byte b then within_limit max_trailer (trailers + 6) (stage.InName (trailers + 1)) else stage.Malformed

-- the last line, or a name
abbrev pub at_field : ℕ → ℕ → ℕ → BodyStage
at_field max_trailer trailers b =
    if b == carriage_return then within_limit max_trailer (trailers + 2) stage.LastEnds else in_name max_trailer trailers b

-- behind a name the colon, which needs the CR LF of its line and the last CR LF behind it
abbrev pub behind_name : ℕ → ℕ → ℕ → BodyStage
behind_name max_trailer trailers b =
    if b == colon then within_limit max_trailer (trailers + 5) (stage.InValue (trailers + 1))
    else in_name max_trailer trailers b

-- the CR of the line, or a byte of the value, which needs the CR LF of its line and the last CR LF behind it
abbrev pub in_value : ℕ → ℕ → ℕ → BodyStage
in_value max_trailer trailers b =
    if b == carriage_return then within_limit max_trailer (trailers + 4) (stage.FieldEnds (trailers + 1))
    else if is_trailer_byte b then within_limit max_trailer (trailers + 5) (stage.InValue (trailers + 1))
    else stage.Malformed

-- the stage, where the byte is the one that is due
abbrev pub due : ℕ → ℕ → BodyStage → BodyStage
due byte b next = if b == byte then next else stage.Malformed

-- what may come next behind one byte more of the trailers (RFC 9112, 7.1.2), or where nothing more is read
abbrev next_of_trailers : ℕ → BodyStage → ℕ → BodyStage
next_of_trailers max_trailer (stage.FieldDue trailers) b = at_field max_trailer trailers b
next_of_trailers max_trailer (stage.InName trailers) b = behind_name max_trailer trailers b
next_of_trailers max_trailer (stage.InValue trailers) b = in_value max_trailer trailers b
next_of_trailers max_trailer (stage.FieldEnds trailers) b =
    due line_feed b (within_limit max_trailer (trailers + 3) (stage.FieldDue (trailers + 1)))
next_of_trailers max_trailer stage.LastEnds b = due line_feed b stage.Whole
next_of_trailers max_trailer s b = s

-- what may come next behind one byte more
abbrev pub next_stage : ℕ → BodyStage → ℕ → BodyStage
next_stage max_trailer (stage.Counted n) b = counted_down n
next_stage max_trailer stage.SizeDue b =
    if is_digit b 16 then with_digit 0 0 (digit_value b) else stage.Malformed
next_stage max_trailer (stage.InSize digits size) b = in_size digits size b
next_stage max_trailer (stage.InBlanks line size) b = behind_size line size b
next_stage max_trailer (stage.InExtension line size) b = in_extension line size b
next_stage max_trailer (stage.LineEnds size) b = due line_feed b (behind_line size)
next_stage max_trailer (stage.InChunk n) b = chunk_down n
next_stage max_trailer stage.ChunkEnds b = due carriage_return b stage.ChunkEnded
next_stage max_trailer stage.ChunkEnded b = due line_feed b stage.SizeDue
next_stage max_trailer s b = next_of_trailers max_trailer s b

-- ---- the fold

-- no continuation is a body
abbrev pub is_bad : BodyStage → Bool
is_bad stage.Malformed = true
is_bad stage.TooLong = true
is_bad _ = false

-- nothing more belongs to the body
abbrev pub is_over : BodyStage → Bool
is_over stage.Whole = true
is_over stage.Malformed = true
is_over stage.TooLong = true
is_over _ = false

-- how many of the next bytes are content, whatever they are
abbrev pub content_left : BodyStage → ℕ
content_left (stage.Counted n) = n
content_left (stage.InChunk n) = n
content_left _ = 0

-- the next byte is content
abbrev pub is_content : BodyStage → Bool
is_content s = nat_lt 0 (content_left s)

abbrev pub count : Bool → ℕ
count true = 1
count false = 0

-- the mark behind one byte that belongs to the body
abbrev pub advanced : BodyMark → BodyStage → BodyMark
advanced m next = record { raw = m.raw + 1; content = m.content + count (is_content m.stage); stage = next }

-- A body that is over takes no more bytes, and the byte that makes it bad doesn't belong to it.
abbrev pub scan_byte : ℕ → BodyMark → ℕ → BodyMark
scan_byte max_trailer m b =
    if is_over m.stage then m
    else if is_bad (next_stage max_trailer m.stage b) then record m { stage = next_stage max_trailer m.stage b }
    else advanced m (next_stage max_trailer m.stage b)

abbrev pub scan_bytes : ℕ → BodyMark → List ℕ → BodyMark
scan_bytes max_trailer m [] = m
scan_bytes max_trailer m (b ∷ bytes) = scan_bytes max_trailer (scan_byte max_trailer m b) bytes

-- b put first where the test holds
abbrev pub byte_before : Bool → ℕ → List ℕ → List ℕ
byte_before true b bytes = b ∷ bytes
byte_before false b bytes = bytes

-- the content among the bytes
abbrev pub content_in : ℕ → BodyMark → List ℕ → List ℕ
content_in max_trailer m [] = []
content_in max_trailer m (b ∷ bytes) =
    byte_before (is_content m.stage) b (content_in max_trailer (scan_byte max_trailer m b) bytes)

-- ---- runs of content

abbrev pub run_stage : BodyStage → ℕ → BodyStage
run_stage (stage.Counted n) k = if nat_le n k then stage.Whole else stage.Counted (n - k)
run_stage (stage.InChunk n) k = if nat_le n k then stage.ChunkEnds else stage.InChunk (n - k)
run_stage s k = s

-- the mark behind k bytes of content
abbrev pub run_after : BodyMark → ℕ → BodyMark
run_after m k = record { raw = m.raw + k; content = m.content + k; stage = run_stage m.stage k }

-- a piece of content, and the mark behind the bytes that hold it
pub record Given : Type 0 where
  pub content : List ℕ
  pub mark : BodyMark

abbrev pub given_before : ℕ → Given → Given
given_before b g = record g { content = b ∷ g.content }

abbrev pub given_onto : List ℕ → Given → Given
given_onto bytes g = record g { content = bytes ++ g.content }

-- the first n bytes of content, where there are as many, and the shortest part of the bytes that holds them
abbrev pub give_bytes : ℕ → ℕ → BodyMark → List ℕ → Given
give_bytes max_trailer zero m bytes = record { content = []; mark = m }
give_bytes max_trailer (suc n) m [] = record { content = []; mark = m }
give_bytes max_trailer (suc n) m (b ∷ bytes) =
    if is_content m.stage then given_before b (give_bytes max_trailer n (scan_byte max_trailer m b) bytes)
    else give_bytes max_trailer (suc n) (scan_byte max_trailer m b) bytes

-- ---- bodies

-- what may come first
abbrev pub first_stage : Framing → BodyStage
first_stage framing.None = stage.Whole
first_stage (framing.Length n) = if nat_le n 0 then stage.Whole else stage.Counted n
first_stage framing.Chunked = stage.SizeDue

-- the place before the first byte
abbrev pub body_start : Framing → BodyMark
body_start f = record { raw = 0; content = 0; stage = first_stage f }

-- Why a body is bad: a byte has no place in a body, and which it is; or the trailers are too large.
pub data BadBody : Type 0 where
  malformed_at : ℕ → BadBody
  trailers_too_large : BadBody

-- What bytes are of a body: all of one, of so many bytes; a part of one; or no part of any.
pub data Body : Type 0 where
  whole : List ℕ → ℕ → Body
  partial : List ℕ → Body
  bad : BadBody → Body

-- what the bytes are, whose scan ends at this mark
abbrev pub body_at : BodyMark → List ℕ → BodyStage → Body
body_at m content stage.Whole = whole content m.raw
body_at m content stage.Malformed = bad (malformed_at m.raw)
body_at m content stage.TooLong = bad trailers_too_large
body_at m content _ = partial content

-- what the bytes from a body's first on are
abbrev pub body_of : ℕ → Framing → List ℕ → Body
body_of max_trailer f bytes =
    let m = scan_bytes max_trailer (body_start f) bytes in
    body_at m (content_in max_trailer (body_start f) bytes) m.stage

-- what an answer unfolds to compute these words on a literal
unfoldable pub bodies_on_literals : ⊤
unfolding is_name_byte
bodies_on_literals = tt
