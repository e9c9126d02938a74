-- What a step is answered.
use Rattle.std.specs.Prelude.{ℕ, Bool, true, false, List, [], take}
use Rattle.cy_event.specs.declared.steps.Reply.{Reply}
use Rattle.cy_event.specs.declared.steps.Reply.TheVariants as reply

-- a reply, and the bytes of content that it hands over
pub record Replied : Type 0 where
  pub reply : Reply
  pub got : List ℕ

-- without bytes
abbrev pub plain : Reply → Replied
plain r = record { reply = r; got = [] }

-- the bytes that a reply hands over in a buffer: the first of it, as many as it counts
abbrev pub got_in : Reply → List ℕ → List ℕ
got_in (reply.Got n) into = take n into
got_in r into = []

abbrev pub replied_in : Reply → List ℕ → Replied
replied_in r into = record { reply = r; got = got_in r into }

-- The step was refused, or could do nothing now: it left no mark.
abbrev pub is_refusal : Reply → Bool
is_refusal reply.Again = true
is_refusal (reply.Illegal s) = true
is_refusal reply.Unsupported = true
is_refusal reply.AlreadySet = true
is_refusal reply.Committed = true
is_refusal reply.BadValue = true
is_refusal (reply.TooMany n) = true
is_refusal reply.NotActive = true
is_refusal reply.NoConn = true
is_refusal reply.NoPass = true
is_refusal reply.Ended = true
is_refusal reply.Closed = true
is_refusal r = false
