-- What happens to one connection, the marks that it makes, and what it is answered.
use Rattle.std.specs.Prelude.{ℕ, min, Bool, true, false, ◌&&◌, ◌||◌, not, List, [], ◌∷◌, length, take, Option, Some, None, is_some, ◌==◌, if◌then◌else◌}
use Rattle.cy_event.specs.declared.limits.Limits.{Limits}
use Rattle.cy_event.specs.declared.steps.Act.{Act}
use Rattle.cy_event.specs.declared.steps.Act.TheVariants as act
use Rattle.cy_event.specs.declared.steps.Call.TheVariants as call
use Rattle.cy_event.specs.declared.steps.CloseCause.{CloseCause}
use Rattle.cy_event.specs.declared.steps.Event.{Event}
use Rattle.cy_event.specs.declared.steps.Event.TheVariants as event
use Rattle.cy_event.specs.declared.steps.Job.{Job}
use Rattle.cy_event.specs.declared.steps.Reply.{Reply}
use Rattle.cy_event.specs.declared.steps.Reply.TheVariants as reply
use Rattle.cy_event.specs.Answers.{Answer, takes}
use Rattle.cy_event.specs.Callbacks.{makes_calls}
use Rattle.cy_map.specs.declared.rule.Rule.{Rule}
use Rattle.cy_event.specs.Table.{row, is_end}
use Rattle.cy_model.specs.Endings.{end_marks}
use Rattle.cy_model.specs.Folds.{cause_of, ended_charts, has_ended, is_broken, running, state_of}
use Rattle.cy_model.specs.Inputs.{room}
use Rattle.cy_model.specs.Jobs.{next_job}
use Rattle.cy_model.specs.Marks.{Mark, opened, ended, came, sent, called, started, back, put, Trace}
use Rattle.cy_model.specs.Outputs.{answer_of, is_gone, unsent}
use Rattle.cy_model.specs.Reads.{reading_marks, reading_in, reading_reply}
use Rattle.cy_model.specs.Replies.{Replied, plain}
use Rattle.cy_model.specs.Settling.{with_marks, rested, settled}

pub data Entry : Type 0 where
  -- the connection is admitted
  opening : Entry
  -- the clock goes on
  tick : Entry
  -- its socket tells something; bytes stand beside the event
  on_event : Event → List ℕ → Entry
  -- a worker turns to it
  on_run : Entry
  -- its callback acts; bytes stand beside the act
  on_act : Act → List ℕ → Entry

-- ---- what is taken

-- how much of n bytes of content is taken
abbrev pub write_takes : Answer → ℕ → ℕ
write_takes a n = takes (length a.content) n

-- no byte of a write is taken that asks for some
abbrev pub is_full : Answer → ℕ → Bool
is_full a n = not (n == 0) && (write_takes a n == 0)

-- how many bytes the socket took, of those that wait for it
abbrev pub sent_by : ℕ → List ℕ → ℕ
sent_by n unsent = min n (length unsent)

abbrev pub sent_of : ℕ → Trace → ℕ
sent_of n T = sent_by n (unsent T)

-- ---- what is closed

-- whether an event finds the connection closed: no bytes of the input are taken once there is a cause to close or the
-- input has ended, and nothing is told of the output once it is gone or broken
abbrev pub is_closed_by : Event → Option CloseCause → Bool → Bool → Bool → Bool
is_closed_by event.In cause has_ended is_gone is_broken = is_some cause || has_ended
is_closed_by event.End cause has_ended is_gone is_broken = is_some cause || has_ended
is_closed_by (event.Took n) cause has_ended is_gone is_broken = is_gone || is_broken

abbrev pub is_closed_to : Event → Trace → Bool
is_closed_to e T = is_closed_by e (cause_of T) (has_ended T) (is_gone T) (is_broken T)

-- a callback may neither read nor write once there is a cause to close
abbrev pub is_closed_act : Act → Trace → Bool
is_closed_act (act.Read n) T = is_some (cause_of T)
is_closed_act (act.Write n) T = is_some (cause_of T)
is_closed_act act.Return T = false

-- ---- the marks

-- what the socket told
abbrev pub event_marks : Trace → Event → List ℕ → List Mark
event_marks T event.In b = came (take (room T) b) ∷ []
event_marks T event.End b = ended ∷ []
event_marks T (event.Took n) b = sent (sent_of n T) ∷ []

-- the end of the request, where the row says so
abbrev pub end_marks_where : Bool → Trace → List Mark
end_marks_where true T = end_marks T
end_marks_where false T = []

-- the callback of a service returns
abbrev pub return_marks : Trace → List Mark
return_marks T = back ∷ called call.Return None ∷ end_marks_where (is_end (row (state_of T) call.Return)) T

-- some callbacks are begun by a call of the state table
abbrev pub run_marks : Bool → List Mark
run_marks true = called call.Run None ∷ []
run_marks false = []

abbrev pub job_marks : Option Job → List Mark
job_marks None = []
job_marks (Some j) = started j ∷ run_marks (makes_calls j)

-- the marks of an act that is open to the callback; one that can't be made now makes none
abbrev pub open_act_marks : Limits → Trace → Act → List ℕ → Option (List Mark)
open_act_marks limits T (act.Read n) b = reading_marks (reading_in n T)
open_act_marks limits T (act.Write n) b = if is_full (answer_of T) n then None else Some (put (take (write_takes (answer_of T) n) b) ∷ [])
open_act_marks limits T act.Return b = Some (return_marks T)

-- the marks of an act of the callback that runs; a refused act makes none
abbrev pub act_marks : Limits → Trace → Act → List ℕ → Option (List Mark)
act_marks limits T a b = if is_closed_act a T then None else open_act_marks limits T a b

-- an act is refused, or its marks are made and what follows from them
abbrev pub after_act : Limits → List Rule → ℕ → Trace → Option (List Mark) → Trace
after_act limits rules t T None = T
after_act limits rules t T (Some ms) = settled limits rules t (with_marks t ms T)

-- no callback runs that could act, or it acts
abbrev pub after_callback : Limits → List Rule → ℕ → Trace → Act → List ℕ → Trace
after_callback limits rules t T a b = if is_some (running T) then after_act limits rules t T (act_marks limits T a b) else T

-- how many requests have ended
abbrev pub ended_count : Trace → ℕ
ended_count T = length (ended_charts T)

-- the callback that is owed in the settled trace; none where settling ended a request
abbrev pub owed_after : Trace → Trace → Option Job
owed_after T S = if ended_count S == ended_count T then next_job S else None

-- A worker's turn settles first, and then begins the callback that is owed.
abbrev pub after_turn : ℕ → Trace → Trace → Trace
after_turn t T S = with_marks t (job_marks (owed_after T S)) S

-- what the socket tells, before a head is taken up
abbrev pub rested_event : Limits → ℕ → Trace → Event → List ℕ → Trace
rested_event limits t T e b = if is_closed_to e T then T else rested limits t (with_marks t (event_marks T e b) T)

-- the callback that is owed begins, before a head is taken up
abbrev pub rested_turn : Limits → ℕ → Trace → Trace
rested_turn limits t T = after_turn t T (rested limits t T)

-- an act of an open request, before a head is taken up
abbrev pub rested_act : Limits → ℕ → Trace → Option (List Mark) → Trace
rested_act limits t T None = T
rested_act limits t T (Some ms) = rested limits t (with_marks t ms T)

abbrev pub rested_callback : Limits → ℕ → Trace → Act → List ℕ → Trace
rested_callback limits t T a b = if is_some (running T) then rested_act limits t T (act_marks limits T a b) else T

-- The trace after an entry. One that is refused changes nothing.
unfoldable pub after : Limits → List Rule → ℕ → Trace → Entry → Trace
after limits rules t T opening = settled limits rules t ((t, opened) ∷ T)
after limits rules t T tick = settled limits rules t T
after limits rules t T (on_event e b) = if is_closed_to e T then T else settled limits rules t (with_marks t (event_marks T e b) T)
after limits rules t T on_run = if is_gone T then T else after_turn t T (settled limits rules t T)
after limits rules t T (on_act a b) = if is_gone T then T else after_callback limits rules t T a b

-- the trace of a connection's entries, the newest first, each with its moment
abbrev pub trace_of : Limits → List Rule → List (ℕ × Entry) → Trace
trace_of limits rules [] = []
trace_of limits rules ((t, e) ∷ entries) = after limits rules t (trace_of limits rules entries) e

-- ---- the replies

abbrev pub job_reply : Option Job → Reply
job_reply None = reply.Idle
job_reply (Some j) = reply.Begun j

abbrev pub event_reply : Trace → Event → List ℕ → Reply
event_reply T event.In b = reply.Taken (length (take (room T) b))
event_reply T event.End b = reply.Done
event_reply T (event.Took n) b = reply.Taken (sent_of n T)

-- the reply to what the socket tells
abbrev pub reply_to_event : Trace → Event → List ℕ → Reply
reply_to_event T e b = if is_closed_to e T then reply.Closed else event_reply T e b

abbrev pub write_reply : Answer → ℕ → Reply
write_reply a n = if is_full a n then reply.Again else reply.Taken (write_takes a n)

abbrev pub open_act_reply : Limits → Trace → Act → Replied
open_act_reply limits T (act.Read n) = reading_reply (reading_in n T)
open_act_reply limits T (act.Write n) = plain (write_reply (answer_of T) n)
open_act_reply limits T act.Return = plain reply.Done

abbrev pub act_reply : Limits → Trace → Act → Replied
act_reply limits T a = if is_closed_act a T then plain reply.Closed else open_act_reply limits T a

-- the reply to an act on a connection that isn't gone
abbrev pub callback_reply : Limits → Trace → Act → Replied
callback_reply limits T a = if is_some (running T) then act_reply limits T a else plain reply.NotActive

-- the reply to a worker's turn, which settles first
abbrev pub turn_reply : Trace → Trace → Replied
turn_reply T S = plain (job_reply (owed_after T S))

-- the reply to an entry
unfoldable pub reply_to : Limits → List Rule → ℕ → Trace → Entry → Replied
reply_to limits rules t T opening = plain reply.Entered
reply_to limits rules t T tick = plain reply.Done
reply_to limits rules t T (on_event e b) = plain (reply_to_event T e b)
reply_to limits rules t T on_run = if is_gone T then plain reply.Closed else turn_reply T (settled limits rules t T)
reply_to limits rules t T (on_act a b) = if is_gone T then plain reply.Closed else callback_reply limits T a
