-- The bytes of an answer, by what is written of it.
use Rattle.std.specs.Prelude.{ℕ, Bool, List, [], ◌++◌, length, codes, decimal, if◌then◌else◌}
use Rattle.cy_event.specs.Answers.{Connection as Said, silent, close, keep_alive, connection_line, content_length, crlf, error_answer}
use Rattle.cy_event.specs.Dates.{date_at}
use Rattle.cy_proc.specs.declared.answer.Connection.{Connection}
use Rattle.cy_proc.specs.declared.answer.Connection.TheVariants as connection

-- what is said of the connection
abbrev pub said : Connection → Said
said connection.Silent = silent
said connection.Close = close
said connection.KeepAlive = keep_alive

-- a head of this status, with these lines of fields
unfoldable pub head_bytes : ℕ → List ℕ → ℕ → ℕ → Connection → List ℕ
head_bytes status fields size at c =
    codes "HTTP/1.1 " ++ decimal status ++ codes " \r\n" ++ fields ++ content_length size
    ++ codes "Date: " ++ date_at at ++ crlf ++ connection_line (said c) ++ crlf

-- the lines of the fields of an error answer, and its content
abbrev pub error_fields : List ℕ
error_fields = codes "Content-Type: text/plain\r\n"

abbrev pub error_content : ℕ → List ℕ
error_content status = (error_answer status).content

-- an error answer, with or without its content
abbrev pub error_bytes : ℕ → Bool → ℕ → Connection → List ℕ
error_bytes status with_content at c =
    head_bytes status error_fields (length (error_content status)) at c ++ (if with_content then error_content status else [])
