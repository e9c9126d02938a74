-- The parts of an answer, one after another, are its text.
use Rattle.std.proofs.Common.{◌≡◌, ℕ, ◌+◌, Bool, true, false, not, List, [], ◌++◌, length, codes, append_assoc, length-append, arith, ◌≤◌, refl, ap, sym, ◌∙◌, if◌then◌else◌}
use Rattle.std.proofs.lemmas.List.{append-nil}
use Rattle.std.specs.Fmt.{digits}
use Rattle.std.specs.Prelude.{decimal}
use Rattle.cy_event.specs.Answers.{answer_text, after_put, connection_line, content_length, crlf, error_answer, fresh_answer, head_text, refusal_text}
use Rattle.cy_event.specs.Dates.{date_at}
use Rattle.cy_proc.specs.AnswerBytes.{error_bytes, error_content, error_fields, head_bytes, said}
use Rattle.cy_proc.specs.declared.answer.Connection.{Connection}
use Rattle.cy_proc.specs.declared.answer.Connection.TheVariants as connection

regrouped : (out start status mid fields name size end date at line : List ℕ) →
    (((((((((((out ++ start) ++ status) ++ mid) ++ fields) ++ name) ++ size) ++ (end ++ date)) ++ at) ++ end) ++ line) ++ end)
    ≡ out ++ (((((((((start ++ status) ++ mid) ++ fields) ++ ((name ++ size) ++ end)) ++ date) ++ at) ++ end) ++ line) ++ end)
regrouped out start status mid fields name size end date at line = simp (append_assoc)

-- the parts of a head behind the bytes that stand there
pub parts_of_head : (out fields : List ℕ) (status size at : ℕ) (c : Connection) →
    (((((((((((out ++ codes "HTTP/1.1 ") ++ decimal status) ++ codes " \r\n") ++ fields) ++ codes "Content-Length: ") ++ decimal size) ++ codes "\r\nDate: ") ++ date_at at) ++ codes "\r\n") ++ connection_line (said c)) ++ codes "\r\n")
    ≡ out ++ head_bytes status fields size at c
unfolding head_bytes digits
parts_of_head out fields status size at c = regrouped out (codes "HTTP/1.1 ") (decimal status) (codes " \r\n") fields (codes "Content-Length: ") (decimal size) crlf (codes "Date: ") (date_at at) (connection_line (said c))

-- an answer of content
pub content_is : (content : List ℕ) (at : ℕ) (c : Connection) → head_bytes 200 [] (length content) at c ++ content ≡ answer_text (after_put content fresh_answer) at (said c)
unfolding head_bytes head_text
content_is content at c = refl

-- ---- error answers

-- how long the content is
pub error_size : (status n : ℕ) → n ≡ 6 + length (decimal status) + 1 → n ≡ length (error_content status)
unfolding digits
error_size status n e =
    omega (arith, e, length-append (codes "Error " ++ decimal status) (codes "\n"), length-append (codes "Error ") (decimal status))

-- the parts of an error answer behind the bytes that stand there
pub parts_of_error : (out : List ℕ) (status n at : ℕ) (c : Connection) → n ≡ length (error_content status) →
    (((out ++ head_bytes status error_fields n at c) ++ codes "Error ") ++ decimal status) ++ codes "\n" ≡ out ++ error_bytes status true at c
parts_of_error out status n at c size =
    ap (λ (k : ℕ). (((out ++ head_bytes status error_fields k at c) ++ codes "Error ") ++ decimal status) ++ codes "\n") size
    ∙ joined out (head_bytes status error_fields (length (error_content status)) at c) (codes "Error ") (decimal status) (codes "\n")
  where
    joined : (out head word number end : List ℕ) → (((out ++ head) ++ word) ++ number) ++ end ≡ out ++ (head ++ ((word ++ number) ++ end))
    joined out head word number end = simp (append_assoc)

pub head_of_error : (out : List ℕ) (status n at : ℕ) (c : Connection) → n ≡ length (error_content status) →
    out ++ head_bytes status error_fields n at c ≡ out ++ error_bytes status false at c
head_of_error out status n at c size =
    ap (λ (k : ℕ). out ++ head_bytes status error_fields k at c) size
    ∙ ap (λ (u : List ℕ). out ++ u) (sym (append-nil (head_bytes status error_fields (length (error_content status)) at c)))

-- an error answer
pub error_is : (status at : ℕ) (c : Connection) → head_bytes status error_fields (length (error_content status)) at c ++ error_content status ≡ answer_text (error_answer status) at (said c)
unfolding head_bytes head_text
error_is status at c = refl

pub refusal_is : (status at : ℕ) (to_head : Bool) → head_bytes status error_fields (length (error_content status)) at connection.Close ++ (if to_head then [] else error_content status) ≡ refusal_text status to_head at
unfolding head_bytes head_text
refusal_is status at to_head = refl

-- how long the parts of a head are
pub head_is_short : (fields : List ℕ) (status size at : ℕ) (c : Connection) → length (decimal status) ≤ 5 → length (decimal size) ≤ 20 → length (date_at at) ≤ 29 → length (connection_line (said c)) ≤ 24 → length fields ≤ 26 → length (head_bytes status fields size at c) ≤ 144
unfolding head_bytes digits
head_is_short fields status size at c few many dated said_short short =
    omega (
      arith,
      few,
      many,
      dated,
      said_short,
      short,
      length-append ((((((((codes "HTTP/1.1 " ++ decimal status) ++ codes " \r\n") ++ fields) ++ content_length size) ++ codes "Date: ") ++ date_at at) ++ crlf) ++ connection_line (said c)) crlf,
      length-append (((((((codes "HTTP/1.1 " ++ decimal status) ++ codes " \r\n") ++ fields) ++ content_length size) ++ codes "Date: ") ++ date_at at) ++ crlf) (connection_line (said c)),
      length-append ((((((codes "HTTP/1.1 " ++ decimal status) ++ codes " \r\n") ++ fields) ++ content_length size) ++ codes "Date: ") ++ date_at at) crlf,
      length-append (((((codes "HTTP/1.1 " ++ decimal status) ++ codes " \r\n") ++ fields) ++ content_length size) ++ codes "Date: ") (date_at at),
      length-append ((((codes "HTTP/1.1 " ++ decimal status) ++ codes " \r\n") ++ fields) ++ content_length size) (codes "Date: "),
      length-append (((codes "HTTP/1.1 " ++ decimal status) ++ codes " \r\n") ++ fields) (content_length size),
      length-append ((codes "HTTP/1.1 " ++ decimal status) ++ codes " \r\n") fields,
      length-append (codes "HTTP/1.1 " ++ decimal status) (codes " \r\n"),
      length-append (codes "HTTP/1.1 ") (decimal status),
      length-append (codes "Content-Length: " ++ decimal size) crlf,
      length-append (codes "Content-Length: ") (decimal size),
    )

-- a refusal is an error answer after which the connection closes; to HEAD without its content
pub refusal_with : (status at : ℕ) (to_head : Bool) → error_bytes status (not to_head) at connection.Close ≡ refusal_text status to_head at
refusal_with status at true = refusal_is status at true
refusal_with status at false = refusal_is status at false

-- an error answer with its content
pub error_with : (status at : ℕ) (c : Connection) → error_bytes status true at c ≡ answer_text (error_answer status) at (said c)
error_with status at c = error_is status at c
