-- What each thing that happens does to the parts of a line.
use Rattle.std.specs.Prelude.{ℕ, ◌+◌, max, Bool, true, false, ◌&&◌, ◌||◌, ◌==◌, nat_lt, not, List, ◌++◌, length, take, drop, Option, Some, None, is_none, is_some, if◌then◌else◌}
use Rattle.cy_event.specs.declared.limits.Limits.{Limits}
use Rattle.cy_event.specs.declared.steps.CloseCause.{CloseCause}
use Rattle.cy_event.specs.declared.steps.CloseCause.TheVariants.{BadBody, InputEnd, LastAnswer, Refused, SwallowLimit}
use Rattle.cy_event.specs.declared.steps.Event.{Event}
use Rattle.cy_event.specs.declared.steps.Event.TheVariants as event
use Rattle.cy_event.specs.declared.steps.Reply.{Reply}
use Rattle.cy_event.specs.declared.steps.Reply.TheVariants as reply
use Rattle.cy_event.specs.Answers.{Answer, Connection, answer_text, refusal_text}
use Rattle.cy_event.specs.declared.framing.Framing.{Framing}
use Rattle.cy_event.specs.Bodies.{is_bad}
use Rattle.cy_event.specs.Heads.{Front, head_of}
use Rattle.cy_event.specs.AnswerModes.{connection_of, counted}
use Rattle.cy_in.specs.Intakes.{after_read, after_scan, after_swallow, is_whole, started, swallowed, taken_by}
use Rattle.cy_model.specs.Entries.{is_closed_by, sent_by}
use Rattle.cy_model.specs.Inputs.{room_by}
use Rattle.cy_model.specs.Outputs.{begin_text, is_gone_by}
use Rattle.cy_model.specs.Settling.{is_awaited, may_begin_by}
use Rattle.cy_proc.specs.Lines.{LineParts}
use Rattle.cy_proc.specs.declared.line.Standing.{Standing}
use Rattle.cy_proc.specs.declared.line.Standing.TheVariants as standing

-- ---- events

-- an entry comes at the later of its own moment and the last one
abbrev pub at_moment : ℕ → LineParts → LineParts
at_moment at l = record l { moment = max l.moment at }

abbrev pub room_of : LineParts → ℕ
room_of l = room_by l.unread l.came

abbrev pub sent_from : ℕ → LineParts → ℕ
sent_from n l = sent_by n l.unsent

abbrev pub is_gone_line : LineParts → Bool
is_gone_line l = is_gone_by l.cause l.is_open l.unsent

abbrev pub is_closed_line : Event → LineParts → Bool
is_closed_line e l = is_closed_by e l.cause l.has_ended (is_gone_line l) false

-- what waits of the body is scanned
abbrev pub scanned_line : LineParts → LineParts
scanned_line l = record l { body = after_scan l.body.max_trailer l.body l.unread }

-- what waits of it is passed over
abbrev pub passed_line : LineParts → LineParts
passed_line l =
    let next = after_swallow l.body.max_trailer l.body l.unread in
    record l { body = next; unread = drop (taken_by l.body next) l.unread }

-- one, and once the last request has ended the other
abbrev pub gone_on : LineParts → LineParts
gone_on l = if l.is_open || l.begun == 0 then scanned_line l else passed_line l

-- bytes come behind those that wait
abbrev pub with_more : List ℕ → LineParts → LineParts
with_more b l = record l { unread = l.unread ++ b; came = l.came + length b }

abbrev pub after_event : Event → List ℕ → LineParts → LineParts
after_event event.In b l = gone_on (with_more (take (room_of l) b) l)
after_event event.End b l = record l { has_ended = true }
after_event (event.Took n) b l = record l { unsent = drop (sent_from n l) l.unsent }

abbrev pub event_answer : Event → List ℕ → LineParts → Reply
event_answer event.In b l = reply.Taken (length (take (room_of l) b))
event_answer event.End b l = reply.Done
event_answer (event.Took n) b l = reply.Taken (sent_from n l)

-- ---- settling

abbrev pub front_at : Limits → LineParts → Front
front_at limits l = head_of limits.max_head limits.max_fields l.unread

abbrev pub has_whole : LineParts → Bool
has_whole l = is_whole l.body.scanned.stage

abbrev pub may_begin_line : LineParts → Bool
may_begin_line l = may_begin_by l.is_open l.cause (has_whole l) l.unsent

-- no more of the body can come, or no further head
abbrev pub ends_at_rest : Limits → LineParts → Bool
ends_at_rest limits l =
    l.has_ended && (not (has_whole l) || (may_begin_line l && is_awaited (front_at limits l)))

-- Why it closes as it stands, where there is no cause yet. The byte that makes a body bad is never passed over, so where
-- more of it was passed over than may be that came before.
abbrev pub cause_at_rest : Limits → LineParts → Option CloseCause
cause_at_rest limits l =
    if nat_lt limits.max_swallow (swallowed l.body) then Some SwallowLimit
    else if is_bad l.body.scanned.stage then Some BadBody
    else if ends_at_rest limits l then Some InputEnd
    else None

abbrev pub after_rest : Limits → LineParts → LineParts
after_rest limits l = if is_none l.cause then record l { cause = cause_at_rest limits l } else l

-- an event, and what follows of it
abbrev pub after_told : Limits → Event → List ℕ → LineParts → LineParts
after_told limits e b l = if is_closed_line e l then l else after_rest limits (after_event e b l)

abbrev pub told_answer : Event → List ℕ → LineParts → Reply
told_answer e b l = if is_closed_line e l then reply.Closed else event_answer e b l

-- a head is to be taken up or refused
abbrev pub is_due : Limits → LineParts → Bool
is_due limits l = may_begin_line l && not (is_awaited (front_at limits l))

-- a cause may be set
abbrev pub causes_left : Option CloseCause → ℕ
causes_left None = 1
causes_left (Some k) = 0

-- what a head that is taken up or refused makes less: the bytes that wait, and a cause that may be set
abbrev pub work_of : LineParts → ℕ
work_of l = length l.unread + causes_left l.cause

-- how a line stands
abbrev pub standing_of : Limits → LineParts → Standing
standing_of limits l =
    if is_gone_line l then standing.Gone
    else if is_some l.cause then standing.Closing
    else if is_due limits l then standing.Due
    else standing.Waiting

-- ---- taking up a head, and the end of its request

-- A head of this size is taken up, and `100 Continue` is written where it is due. What came of its body is scanned.
abbrev pub after_begin : ℕ → Framing → ℕ → Bool → LineParts → LineParts
after_begin size framing max_trailer go_on l = record l {
  unread = drop size l.unread;
  body = after_scan max_trailer (started framing) (drop size l.unread);
  begun = l.begun + 1;
  unsent = l.unsent ++ begin_text go_on;
  is_open = true;
}

-- a head is refused
abbrev pub after_refusal : ℕ → Bool → LineParts → LineParts
after_refusal status to_head l = record l {
  unsent = l.unsent ++ refusal_text status to_head l.moment;
  cause = Some Refused;
}

-- an answer that says that the connection closes is a cause, where there is none yet
abbrev pub cause_after : Bool → Option CloseCause → Option CloseCause
cause_after keep (Some k) = Some k
cause_after true None = None
cause_after false None = Some LastAnswer

-- an answer says that its connection closes, stays open where that isn't the rule of the version, or nothing
-- (RFC 9112, section 9.3)
abbrev pub connection_by : Bool → Option CloseCause → ℕ → Connection
connection_by keep cause minor = connection_of (record { minor = minor; is_head = false; keep = keep && is_none cause }) counted

-- the request is over, and what came of its body is passed over
abbrev pub closed_request : Bool → LineParts → LineParts
closed_request keep l = passed_line (record l { is_open = false; cause = cause_after keep l.cause })

-- the request ends with this answer
abbrev pub after_end_of : Bool → ℕ → Answer → LineParts → LineParts
after_end_of keep minor a l =
    closed_request keep (record l { unsent = l.unsent ++ answer_text a l.moment (connection_by keep l.cause minor) })

-- ---- content

-- a read of at most n bytes
abbrev pub read_line : ℕ → LineParts → LineParts
read_line n l =
    let next = after_read n l.body l.unread in
    record l { body = next; unread = drop (taken_by l.body next) l.unread }
