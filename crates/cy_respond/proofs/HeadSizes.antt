-- A head is its parts one after another, and is as long as these.
use Rattle.std.proofs.Common.{◌≡◌, ℕ, ◌+◌, List, ◌++◌, length, codes, flat_map, ap, ◌∙◌, arith, append_assoc, length-append}
use Rattle.std.specs.Prelude.{decimal}
use Rattle.cy_event.specs.Answers.{Answer, connection_line, crlf, field_line, head_text}
use Rattle.cy_event.specs.AnswerModes.{Shape, framing_lines, head_of_shape}
use Rattle.cy_event.specs.Dates.{date_at}
use Rattle.cy_event.proofs.DatesWritten.{length_of_date}
use Rattle.cy_respond.specs.HeadParts.{start_lines, end_lines}

regrouped : (front framing name date end connection : List ℕ)
    → ((((((front ++ framing) ++ name) ++ date) ++ end) ++ connection) ++ end) ≡ (front ++ framing) ++ ((((name ++ date) ++ end) ++ connection) ++ end)
regrouped front framing name date end connection = simp append_assoc

-- the parts in order
pub head_is : (a : Answer) (s : Shape) (at : ℕ)
    → head_of_shape a s at ≡ (start_lines a ++ framing_lines s.told_length s.in_chunks) ++ end_lines at s.connection
unfolding head_text
head_is a s at = regrouped (start_lines a) (framing_lines s.told_length s.in_chunks) (codes "Date: ") (date_at at) crlf (connection_line s.connection)

length_of_four : (start status gap lines : List ℕ) → length (((start ++ status) ++ gap) ++ lines) ≡ length start + length status + length gap + length lines
length_of_four start status gap lines = simp length-append

length_of_five : (name date end connection : List ℕ) → length ((((name ++ date) ++ end) ++ connection) ++ end) ≡ length name + length date + length end + length connection + length end
length_of_five name date end connection = simp length-append

pub length_of_start : (a : Answer) → length (start_lines a) ≡ 12 + length (decimal a.status) + length (flat_map field_line a.fields)
length_of_start a = length_of_four (codes "HTTP/1.1 ") (decimal a.status) (codes " \r\n") (flat_map field_line a.fields) ∙ omega arith

pub length_of_end : (at : ℕ) (s : Shape) → length (end_lines at s.connection) ≡ 39 + length (connection_line s.connection)
length_of_end at s = length_of_five (codes "Date: ") (date_at at) crlf (connection_line s.connection) ∙ omega (arith, length_of_date at)

-- how long a head is
pub head_size : (a : Answer) (s : Shape) (at : ℕ)
    → length (head_of_shape a s at)
    ≡ 12 + length (decimal a.status) + length (flat_map field_line a.fields) + length (framing_lines s.told_length s.in_chunks) + (39 + length (connection_line s.connection))
head_size a s at =
    ap length (head_is a s at)
    ∙ length-append (start_lines a ++ framing_lines s.told_length s.in_chunks) (end_lines at s.connection)
    ∙ omega (arith, length-append (start_lines a) (framing_lines s.told_length s.in_chunks), length_of_start a, length_of_end at s)
