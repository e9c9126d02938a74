-- An answer and its client, over any list of writes, flushes and bytes that the client takes.
use Rattle.std.specs.Prelude.{ℕ, Bool, not, ◌&&◌, if◌then◌else◌, List, [], ◌∷◌, ◌++◌, length, take, drop, Option, None, Some, unwrap_or}
use Rattle.cy_event.specs.Answers.{Answer}
use Rattle.cy_event.specs.Answering.{Answering, after_finish, after_flush, after_write, can_cut, has_to_cut, is_committed, passes_length, push_bytes}
use Rattle.cy_event.specs.Pieces.{PutOrFlush, flushed, put}

-- what the client got, and the answer with what waits for the client
pub record Exchange : Type 0 where
  pub received : List ℕ
  pub answering : Answering

pub data Act : Type 0 where
  writes : List ℕ → ℕ → Act
  flushes : ℕ → Act
  -- the client takes so many of the bytes that wait for it
  receives : ℕ → Act

abbrev pub after_act : Answer → Act → Exchange → Exchange
after_act head (writes bytes at) x = record x { answering = after_write head at bytes x.answering }
after_act head (flushes at) x = record x { answering = after_flush head at x.answering }
after_act head (receives n) x = record {
  received = x.received ++ take n x.answering.output;
  answering = record x.answering { output = drop n x.answering.output };
}

abbrev pub after_acts : Answer → List Act → Exchange → Exchange
after_acts head [] x = x
after_acts head (act ∷ acts) x = after_acts head acts (after_act head act x)

abbrev pub finished : Answer → ℕ → Exchange → Exchange
finished head at x = record x { answering = after_finish head at x.answering }

-- ---- the head

-- the moment of an act; what the client takes has none
abbrev pub moment_of : Act → Option ℕ
moment_of (writes bytes at) = Some at
moment_of (flushes at) = Some at
moment_of (receives n) = None

abbrev pub is_out : Exchange → Bool
is_out x = is_committed x.answering.sending

-- The moment that the head of an answer has of which nothing is out: that of the first act behind which the head is
-- out, else that of the finish.
abbrev pub head_moment : Answer → List Act → ℕ → Exchange → ℕ
head_moment head [] at x = at
head_moment head (act ∷ acts) at x =
    if is_out (after_act head act x) then unwrap_or (moment_of act) at else head_moment head acts at (after_act head act x)

-- ---- what was written

-- all bytes that were written to the client
abbrev pub written : Exchange → List ℕ
written x = x.received ++ x.answering.output

-- ---- what the acts do with the content

-- the content that a write takes
abbrev pub taken_by : Answer → ℕ → List ℕ → Answering → List ℕ
taken_by head at bytes a = if passes_length a.sending (length bytes) then [] else take (push_bytes head at bytes a).count bytes

-- a flush that finds no room does nothing
abbrev pub marks_by : Answer → Act → Exchange → List PutOrFlush
marks_by head (writes bytes at) x = put (taken_by head at bytes x.answering) ∷ []
marks_by head (flushes at) x = if has_to_cut x.answering.sending && not (can_cut x.answering.output) then [] else flushed ∷ []
marks_by head (receives n) x = []

abbrev pub marks_of : Answer → List Act → Exchange → List PutOrFlush
marks_of head [] x = []
marks_of head (act ∷ acts) x = marks_by head act x ++ marks_of head acts (after_act head act x)
