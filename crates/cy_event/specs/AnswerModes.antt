-- How the content of an answer is framed and sent, and what its head says of that and of the connection (RFC 9112,
-- sections 6, 7.1 and 9.3; RFC 9110, section 6.4.1).
use Rattle.std.specs.Prelude.{ℕ, Bool, true, false, not, ◌&&◌, ◌||◌, ◌==◌, if◌then◌else◌, List, [], ◌∷◌, ◌++◌, length, Option, None, Some, is_none, codes}
use Rattle.std.specs.Fmt.{digits}
use Rattle.cy_event.specs.Answers.{Answer, Connection, silent, close, keep_alive, content_length, crlf, head_text}

-- the request that is answered: its version is HTTP/1.minor, its method may be HEAD, and its connection may be kept
pub record Asked : Type 0 where
  pub minor : ℕ
  pub is_head : Bool
  pub keep : Bool

-- How the content is sent: not at all; so many bytes as the head says; in chunks; or as it comes, until the
-- connection closes.
pub data Mode : Type 0 where
  void : Mode
  counted : Mode
  chunked : Mode
  until_close : Mode

-- ---- modes

-- statuses whose answers have no content (RFC 9110, sections 15.3.5 and 15.4.5)
abbrev pub has_no_content : ℕ → Bool
has_no_content status = (status == 204) || (status == 304)

-- content is sent by its length where that is known, else in chunks if the client knows them
abbrev pub content_mode : ℕ → Option ℕ → Mode
content_mode minor (Some n) = counted
content_mode minor None = if minor == 1 then chunked else until_close

-- the mode of an answer of this status whose content has this length, where that is known
abbrev pub mode_of : Asked → ℕ → Option ℕ → Mode
mode_of asked status n =
    if asked.is_head || has_no_content status then void else content_mode asked.minor n

-- ---- what the head says

-- the length, where the head says one
abbrev pub length_line : Option ℕ → List ℕ
length_line None = []
length_line (Some n) = content_length n

abbrev pub chunked_line : Bool → List ℕ
chunked_line false = []
chunked_line true = codes "Transfer-Encoding: chunked\r\n"

-- the fields that frame the content
abbrev pub framing_lines : Option ℕ → Bool → List ℕ
framing_lines n in_chunks = length_line n ++ chunked_line in_chunks

abbrev pub is_until_close : Mode → Bool
is_until_close until_close = true
is_until_close void = false
is_until_close counted = false
is_until_close chunked = false

-- the connection closes behind an answer in this mode
abbrev pub closes : Asked → Mode → Bool
closes asked mode = not asked.keep || is_until_close mode

-- a connection stays by itself for HTTP/1.1, and where it is said for HTTP/1.0
abbrev pub connection_of : Asked → Mode → Connection
connection_of asked mode =
    if closes asked mode then close else (if asked.minor == 1 then silent else keep_alive)

-- What a head says of the content and of the connection. An answer to HEAD says of the content what one to GET would.
pub record Shape : Type 0 where
  pub told_length : Option ℕ
  pub in_chunks : Bool
  pub connection : Connection

abbrev pub shape_of : Asked → ℕ → Option ℕ → Shape
shape_of asked status n = record {
  told_length = if has_no_content status then None else n;
  in_chunks = not (has_no_content status) && is_none n && (asked.minor == 1);
  connection = connection_of asked (mode_of asked status n);
}

-- the head of this shape, of an answer with these fields and this status
abbrev pub head_of_shape : Answer → Shape → ℕ → List ℕ
head_of_shape a shape at = head_text a (framing_lines shape.told_length shape.in_chunks) at shape.connection

-- ---- pieces (RFC 9112, section 7.1)

-- a number in hexadecimal, in lower case and without zeros before it
abbrev pub hex_text : ℕ → List ℕ
hex_text n = digits 16 false n

-- one chunk, and none where there is no byte, since a chunk of no bytes is the last
abbrev pub chunk_text : List ℕ → List ℕ
chunk_text [] = []
chunk_text (b ∷ bytes) = hex_text (length (b ∷ bytes)) ++ crlf ++ (b ∷ bytes) ++ crlf

-- a piece of the content, as it is sent
abbrev pub piece_text : Mode → List ℕ → List ℕ
piece_text void bytes = []
piece_text counted bytes = bytes
piece_text chunked bytes = chunk_text bytes
piece_text until_close bytes = bytes

-- what ends the content
abbrev pub last_text : Mode → List ℕ
last_text void = []
last_text counted = []
last_text chunked = codes "0\r\n\r\n"
last_text until_close = []
