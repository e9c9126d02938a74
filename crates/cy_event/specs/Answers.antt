-- An answer: what a component set and wrote, and its bytes (RFC 9110, sections 6 and 15; RFC 9112, sections 4 and 6).
use Rattle.std.specs.Prelude.{ℕ, ◌-◌, min, Bool, List, [], ◌∷◌, ◌++◌, Option, None, unwrap_or, length, flat_map, codes, decimal, if◌then◌else◌}
use Rattle.cy_event.specs.Heads.{Field}
use Rattle.cy_event.specs.Dates.{date_at}

-- the answer so far
pub record Answer : Type 0 where
  pub status : ℕ
  pub fields : List Field
  -- the length that was set
  pub set_length : Option ℕ
  pub content : List ℕ

-- as a request begins
abbrev pub fresh_answer : Answer
fresh_answer = record { status = 200; fields = []; set_length = None; content = [] }

-- the answer that tells of an error: its status, and as its content a line that names it
abbrev pub error_answer : ℕ → Answer
error_answer status = record {
  status = status;
  fields = record { name = codes "Content-Type"; value = codes "text/plain" } ∷ [];
  set_length = None;
  content = codes "Error " ++ decimal status ++ codes "\n";
}

-- with more content
abbrev pub after_put : List ℕ → Answer → Answer
after_put b a = record a { content = a.content ++ b }

-- bytes of content that wait for the head at most
abbrev pub content_buffer : ℕ
content_buffer = 8192

-- How many of n bytes a write takes where so many wait and nothing of them can be cut: what the content buffer has room
-- for.
abbrev pub takes : ℕ → ℕ → ℕ
takes waiting n = min n (content_buffer - waiting)

-- whether the answer says that its connection closes or stays
pub data Connection : Type 0 where
  silent : Connection
  close : Connection
  keep_alive : Connection

abbrev pub crlf : List ℕ
crlf = codes "\r\n"

-- a field of a head: `name: value`
abbrev pub field_line : Field → List ℕ
field_line f = f.name ++ codes ": " ++ f.value ++ crlf

abbrev pub content_length : ℕ → List ℕ
content_length n = codes "Content-Length: " ++ decimal n ++ crlf

abbrev pub connection_line : Connection → List ℕ
connection_line silent = []
connection_line close = codes "Connection: close\r\n"
connection_line keep_alive = codes "Connection: keep-alive\r\n"

-- A head, with the fields that frame its content, the moment of its Date, and what it says of the connection. The
-- reason phrase is empty.
unfoldable pub head_text : Answer → List ℕ → ℕ → Connection → List ℕ
head_text a framing at connection =
    codes "HTTP/1.1 " ++ decimal a.status ++ codes " \r\n" ++ flat_map field_line a.fields ++ framing
    ++ codes "Date: " ++ date_at at ++ crlf ++ connection_line connection ++ crlf

-- An answer of which nothing was cut before its end is framed by its length: the one that was set, or its content's.
abbrev pub head_of_answer : Answer → ℕ → Connection → List ℕ
head_of_answer a at connection = head_text a (content_length (unwrap_or a.set_length (length a.content))) at connection

abbrev pub answer_text : Answer → ℕ → Connection → List ℕ
answer_text a at connection = head_of_answer a at connection ++ a.content

-- The answer to a head that is refused: its connection closes. To a HEAD request it has no content (RFC 9110, section 9.3.2).
abbrev pub refusal_text : ℕ → Bool → ℕ → List ℕ
refusal_text status to_head at =
    head_of_answer (error_answer status) at close ++ (if to_head then [] else (error_answer status).content)

-- what tells a client to send the body that it holds back (RFC 9110, section 15.2.1)
abbrev pub continue_text : List ℕ
continue_text = codes "HTTP/1.1 100 \r\n\r\n"
