-- What a callback is given that reads the content of its request (Servlet 3.1, section 3.7; that no read waits is own).
use Rattle.std.specs.Prelude.{ℕ, Bool, true, false, List, [], ◌∷◌, length, take, Option, Some, None}
use Rattle.cy_event.specs.declared.steps.Reply.TheVariants as reply
use Rattle.cy_model.specs.Inputs.{has_whole_body, waiting}
use Rattle.cy_model.specs.Marks.{Mark, given, end_given, Trace}
use Rattle.cy_model.specs.Replies.{Replied, plain}

-- what a read comes to: content, the end of it, or nothing yet
pub data Reading : Type 0 where
  content_read : List ℕ → Reading
  end_read nothing_read : Reading

-- Of at most n bytes, where this content waits and the body is whole or not: the first bytes that wait, as many as were
-- asked for; where none wait the end, once the body is whole.
abbrev pub reading_by : ℕ → List ℕ → Bool → Reading
reading_by n (b ∷ content) is_whole = content_read (take n (b ∷ content))
reading_by n [] true = end_read
reading_by n [] false = nothing_read

abbrev pub reading_in : ℕ → Trace → Reading
reading_in n T = reading_by n (waiting T) (has_whole_body T)

-- its marks; none where it came to nothing
abbrev pub reading_marks : Reading → Option (List Mark)
reading_marks (content_read content) = Some (given (length content) ∷ [])
reading_marks end_read = Some (end_given ∷ [])
reading_marks nothing_read = None

-- what it is answered, with the content
abbrev pub reading_reply : Reading → Replied
reading_reply (content_read content) = record { reply = reply.Got (length content); got = content }
reading_reply end_read = plain reply.GotEnd
reading_reply nothing_read = plain reply.Again
