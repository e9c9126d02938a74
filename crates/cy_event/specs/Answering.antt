-- An answer as it is made: which bytes of content are taken, where the content is cut into pieces, and what is written
-- to the client for that (RFC 9112, sections 6 and 7.1).
use Rattle.std.specs.Prelude.{ℕ, ◌+◌, ◌-◌, Bool, true, false, not, ◌&&◌, ◌||◌, ◌==◌, nat_lt, nat_le, if◌then◌else◌, List, [], ◌∷◌, ◌++◌, length, Option, None, Some, option_map, unwrap_or}
use Rattle.cy_event.specs.Answers.{Answer, content_buffer, error_answer}
use Rattle.cy_event.specs.AnswerModes.{Asked, Mode, void, counted, chunked, until_close, closes, head_of_shape, last_text, mode_of, piece_text, shape_of}
use Rattle.cy_event.specs.declared.steps.Reply.{Reply}
use Rattle.cy_event.specs.declared.steps.Reply.TheVariants as reply

-- how many bytes of output may wait for a client
abbrev pub output_limit : ℕ
output_limit = 32768

-- how many more must fit before content is cut, since a head, a piece and an end may come
abbrev pub cut_room : ℕ
cut_room = 24576

-- what was settled when the first byte of an answer went out
pub record Commit : Type 0 where
  pub mode : Mode
  -- the head said that the connection closes
  pub closes : Bool

-- an answer that is being sent
pub record Sending : Type 0 where
  pub asked : Asked
  -- how much content is still to come, where a length was set
  pub left : Option ℕ
  -- the content behind the last cut
  pub waiting : List ℕ
  -- none before the first cut
  pub commit : Option Commit

-- such an answer, and what was written to the client and isn't sent yet
pub record Answering : Type 0 where
  pub sending : Sending
  pub output : List ℕ

-- before a request is taken up
abbrev pub idle : Sending
idle = record {
  asked = record { minor = 0; is_head = false; keep = false };
  left = None;
  waiting = [];
  commit = None;
}

-- as a request begins
abbrev pub beginning : Asked → Sending
beginning asked = record { asked = asked; left = None; waiting = []; commit = None }

abbrev pub is_committed : Sending → Bool
is_committed s = elim s.commit [ None ↦ false | Some c ↦ true ]

-- ---- the head

-- the length that was set, where nothing is cut yet
abbrev pub set_length_of : Sending → Option ℕ
set_length_of s = option_map (λ n. n + length s.waiting) s.left

-- the length of the content where no more comes and nothing is cut yet: the one that was set, or what there is
abbrev pub whole_length_of : Sending → ℕ
whole_length_of s = unwrap_or (set_length_of s) (length s.waiting)

-- the commit of an answer whose content has this length, where that is known
abbrev pub commit_by : Answer → Option ℕ → Asked → Commit
commit_by head n asked =
    let mode = mode_of asked head.status n in record { mode = mode; closes = closes asked mode }

-- with the head, unless it is out
abbrev pub with_head : Answer → ℕ → Option ℕ → Answering → Answering
with_head head at n a = elim a.sending.commit [
  | None ↦ record {
    sending = record a.sending { commit = Some (commit_by head n a.sending.asked) };
    output = a.output ++ head_of_shape head (shape_of a.sending.asked head.status n) at;
  }
  | Some c ↦ a
]

-- ---- pieces

-- the mode that was settled
abbrev pub mode_in : Sending → Mode
mode_in s = elim s.commit [ None ↦ void | Some c ↦ c.mode ]

-- what waits, sent as one piece
abbrev pub with_piece : Answering → Answering
with_piece a = record {
  sending = record a.sending { waiting = [] };
  output = a.output ++ piece_text (mode_in a.sending) a.sending.waiting;
}

-- A cut: what waits is sent as one piece, behind the head where that isn't out. It commits the answer.
abbrev pub cut : Answer → ℕ → Answering → Answering
cut head at a = with_piece (with_head head at (set_length_of a.sending) a)

-- there is room for a cut
abbrev pub can_cut : List ℕ → Bool
can_cut output = nat_le (cut_room + length output) output_limit

abbrev pub is_buffer_full : Sending → Bool
is_buffer_full s = not (nat_lt (length s.waiting) content_buffer)

-- ---- writes

-- these bytes of content more behind what waits
abbrev pub with_bytes : List ℕ → Sending → Sending
with_bytes bytes s = record s { waiting = s.waiting ++ bytes; left = option_map (λ n. n - length bytes) s.left }

-- one byte more can be taken: the buffer has room for it, or there is room to cut what waits
abbrev pub can_take : Answering → Bool
can_take a = not (is_buffer_full a.sending) || can_cut a.output

-- with room in the buffer: what waits is cut where it is full
abbrev pub with_room : Answer → ℕ → Answering → Answering
with_room head at a = elim (is_buffer_full a.sending) [ true ↦ cut head at a | false ↦ a ]

-- one byte more, which can be taken
abbrev pub push_byte : Answer → ℕ → ℕ → Answering → Answering
push_byte head at b a =
    let roomy = with_room head at a in record roomy { sending = with_bytes (b ∷ []) roomy.sending }

-- how many bytes were taken, and what they left
pub record Took : Type 0 where
  pub count : ℕ
  pub after : Answering

-- so many more were taken before
abbrev pub more_by : ℕ → Took → Took
more_by n t = record { count = n + t.count; after = t.after }

-- the bytes in order, up to the first that can't be taken
abbrev pub push_bytes : Answer → ℕ → List ℕ → Answering → Took
push_bytes head at [] a = record { count = 0; after = a }
push_bytes head at (b ∷ bytes) a = elim (can_take a) [
  | true ↦ more_by 1 (push_bytes head at bytes (push_byte head at b a))
  | false ↦ record { count = 0; after = a }
]

-- so many bytes would pass the length that was set
abbrev pub passes_length : Sending → ℕ → Bool
passes_length s n = elim s.left [ None ↦ false | Some left ↦ nat_lt left n ]

-- what a write is answered that isn't refused and takes so many bytes out of so many
abbrev pub taken_reply : ℕ → ℕ → Reply
taken_reply count size = if (count == 0) && not (size == 0) then reply.Again else reply.Taken count

abbrev pub write_reply : Answer → ℕ → List ℕ → Answering → Reply
write_reply head at bytes a =
    if passes_length a.sending (length bytes) then reply.BadValue
    else taken_reply (push_bytes head at bytes a).count (length bytes)

abbrev pub after_write : Answer → ℕ → List ℕ → Answering → Answering
after_write head at bytes a =
    if passes_length a.sending (length bytes) then a else (push_bytes head at bytes a).after

-- ---- flushes

abbrev pub is_empty : List ℕ → Bool
is_empty [] = true
is_empty (b ∷ bytes) = false

-- the head is to be cut, or content
abbrev pub has_to_cut : Sending → Bool
has_to_cut s = not (is_committed s) || not (is_empty s.waiting)

abbrev pub flush_reply : Answering → Reply
flush_reply a = if has_to_cut a.sending && not (can_cut a.output) then reply.Again else reply.Done

abbrev pub after_flush : Answer → ℕ → Answering → Answering
after_flush head at a = if has_to_cut a.sending && can_cut a.output then cut head at a else a

-- ---- the end

-- the rest as a last piece, behind the head where that isn't out, and what ends the content
abbrev pub after_finish : Answer → ℕ → Answering → Answering
after_finish head at a =
    let sent = with_piece (with_head head at (Some (whole_length_of a.sending)) a) in
    record sent { output = sent.output ++ last_text (mode_in sent.sending) }

-- content is sent, and less than the length that was set
abbrev pub is_short : Mode → Option ℕ → Bool
is_short mode None = false
is_short void (Some left) = false
is_short counted (Some left) = not (left == 0)
is_short chunked (Some left) = not (left == 0)
is_short until_close (Some left) = not (left == 0)

-- the head said that the connection closes
abbrev pub has_closed : Sending → Bool
has_closed s = elim s.commit [ None ↦ false | Some c ↦ c.closes ]

-- ---- other changes

-- with a length for all content, of which some was put
abbrev pub with_length : ℕ → Sending → Sending
with_length n s = record s { left = Some (n - length s.waiting) }

abbrev pub length_reply : ℕ → Sending → Reply
length_reply n s = if nat_lt n (length s.waiting) then reply.BadValue else reply.Done

abbrev pub after_length : ℕ → Sending → Sending
after_length n s = if nat_lt n (length s.waiting) then s else with_length n s

-- without content and without a length
abbrev pub emptied : Sending → Sending
emptied s = record s { left = None; waiting = [] }

-- the connection closes behind this answer; a head that is out says what it said
abbrev pub closing : Sending → Sending
closing s = elim s.commit [
  | None ↦ record s { asked = record { minor = s.asked.minor; is_head = s.asked.is_head; keep = false } }
  | Some c ↦ s
]

-- nothing more is written for this answer, of which the head is out
abbrev pub aborted : Sending → Sending
aborted s = elim s.commit [
  | None ↦ s
  | Some c ↦ record s { commit = Some (record { mode = void; closes = c.closes }) }
]

-- ---- error answers

abbrev pub error_content : ℕ → List ℕ
error_content status = (error_answer status).content

abbrev pub error_head : ℕ → Answer
error_head status = record (error_answer status) { content = [] }

-- the error answer in place of what there was
abbrev pub with_error : ℕ → Sending → Sending
with_error status s = record s { left = None; waiting = error_content status }
