-- Bodies as they are written (RFC 9112, sections 6 and 7.1): trees and a printer, apart from how bodies are read.
use Rattle.std.specs.Prelude.{◌≡◌, ℕ, ◌+◌, ◌*◌, ◌≤◌, IsTrue, List, [], ◌∷◌, ◌++◌, length, fold, All, Option, Some, None}
use Rattle.std.specs.List.{flat_map, list_all}
use Rattle.std.specs.Char.{is_digit, digit_value}
use Rattle.cy_event.specs.Heads.{Field, is_blank, is_name, colon, carriage_return, line_feed}
use Rattle.cy_event.specs.Bodies.{semicolon, is_extension_byte, is_trailer_byte}
use Rattle.cy_event.specs.declared.framing.Framing.{Framing}
use Rattle.cy_event.specs.declared.framing.Framing.TheVariants as framing
use Rattle.cy_event.specs.declared.body.TheConstants.{GREATEST_CHUNK, GREATEST_LINE, MOST_DIGITS}

-- ---- the trees

-- what may stand behind a chunk's size: blanks, a semicolon and a text
pub record Extension : Type 0 where
  pub blanks : List ℕ
  pub text : List ℕ

-- the line before a chunk, and the line of size 0 before the trailers (chunk-size and chunk-ext)
pub record SizeLine : Type 0 where
  pub digits : List ℕ
  pub extension : Option Extension

pub record Chunk : Type 0 where
  pub line : SizeLine
  pub bytes : List ℕ

-- chunked-body: chunks, the last line, and the fields of the trailer section, whose values keep the blanks around them
pub record ChunkedBody : Type 0 where
  pub chunks : List Chunk
  pub last : SizeLine
  pub trailers : List Field

-- ---- how they are written

abbrev pub line_end : List ℕ
line_end = carriage_return ∷ line_feed ∷ []

abbrev pub extension_text : Option Extension → List ℕ
extension_text None = []
extension_text (Some e) = e.blanks ++ (semicolon ∷ e.text)

abbrev pub line_text : SizeLine → List ℕ
line_text l = l.digits ++ (extension_text l.extension ++ line_end)

abbrev pub chunk_text : Chunk → List ℕ
chunk_text c = line_text c.line ++ (c.bytes ++ line_end)

abbrev pub trailer_text : Field → List ℕ
trailer_text f = f.name ++ (colon ∷ (f.value ++ line_end))

abbrev pub trailers_text : List Field → List ℕ
trailers_text fields = flat_map trailer_text fields ++ line_end

abbrev pub body_text : ChunkedBody → List ℕ
body_text b = flat_map chunk_text b.chunks ++ (line_text b.last ++ trailers_text b.trailers)

-- the chunks' bytes in order
abbrev pub content_of : ChunkedBody → List ℕ
content_of b = flat_map (λ c. c.bytes) b.chunks

-- ---- which of them are right

-- the size with one digit more
abbrev pub size_with : ℕ → ℕ → ℕ
size_with size b = 16 * size + digit_value b

-- the number that hexadecimal digits write
abbrev pub size_of : List ℕ → ℕ
size_of digits = fold size_with 0 digits

abbrev pub IsExtension : Option Extension → Type 0
IsExtension None = Unit {0}
IsExtension (Some e) = IsTrue (list_all is_blank e.blanks) × IsTrue (list_all is_extension_byte e.text)

-- a line of 1 to 16 digits, of a size of at most 2^62, within 1,024 bytes
pub record IsLine (l : SizeLine) : Type 0 where
  pub some : 1 ≤ length l.digits
  pub few : length l.digits ≤ MOST_DIGITS
  pub digits : IsTrue (list_all (λ b. is_digit b 16) l.digits)
  pub size : size_of l.digits ≤ GREATEST_CHUNK
  pub extension : IsExtension l.extension
  pub short : length (line_text l) ≤ GREATEST_LINE

-- a chunk of one or more bytes, as many as its line says
pub record IsChunk (c : Chunk) : Type 0 where
  pub line : IsLine c.line
  pub size : size_of c.line.digits ≡ length c.bytes
  pub some : 1 ≤ length c.bytes

-- a trailer: a token, and a value of any bytes but CR, LF and NUL
pub record IsTrailer (f : Field) : Type 0 where
  pub name : IsTrue (is_name f.name)
  pub value : IsTrue (list_all is_trailer_byte f.value)

-- a body whose trailer section has at most so many bytes
pub record IsChunked (max_trailer : ℕ) (b : ChunkedBody) : Type 0 where
  pub chunks : All IsChunk b.chunks
  pub last : IsLine b.last
  pub end : size_of b.last.digits ≡ 0
  pub trailers : All IsTrailer b.trailers
  pub short : length (trailers_text b.trailers) ≤ max_trailer

-- the bytes are a body of this framing, and this is its content
abbrev pub IsBody : ℕ → Framing → List ℕ → List ℕ → Type 0
IsBody max_trailer framing.None bytes content = (bytes ≡ []) × (content ≡ [])
IsBody max_trailer (framing.Length n) bytes content = (length bytes ≡ n) × (content ≡ bytes)
IsBody max_trailer framing.Chunked bytes content =
    (b : ChunkedBody) × IsChunked max_trailer b × (body_text b ≡ bytes) × (content_of b ≡ content)
