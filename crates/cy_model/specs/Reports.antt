-- The report of a run: a line for each step, and then lines for each connection.
use Rattle.std.specs.Prelude.{ℕ, ◌+◌, true, false, List, [], ◌∷◌, ◌++◌, length, map, reverse, flat_map, Option, Some, None, codes, decimal, nat_lt, if◌then◌else◌}
use Rattle.cy_bytes.specs.Quoting.{quoted}
use Rattle.cy_event.specs.Charts.{chart_of}
use Rattle.cy_event.specs.declared.limits.Limits.{Limits}
use Rattle.cy_event.specs.declared.steps.Call.{Call}
use Rattle.cy_event.specs.declared.steps.Call.TheVariants as call
use Rattle.cy_event.specs.declared.steps.CloseCause.{CloseCause}
use Rattle.cy_event.specs.declared.steps.CloseCause.TheVariants as cause
use Rattle.cy_event.specs.declared.steps.Job.{Job}
use Rattle.cy_event.specs.declared.steps.Job.TheVariants as job
use Rattle.cy_event.specs.declared.steps.Reply.{Reply}
use Rattle.cy_event.specs.declared.steps.Reply.TheVariants as reply
use Rattle.cy_event.specs.declared.steps.State.{State}
use Rattle.cy_event.specs.declared.steps.State.TheVariants as state
use Rattle.cy_event.specs.declared.steps.Step.{Step}
use Rattle.cy_event.specs.declared.table.ChartItem.{ChartItem}
use Rattle.cy_event.specs.declared.table.ChartItem.TheVariants.{One, Cycles}
use Rattle.cy_map.specs.declared.rule.Rule.{Rule}
use Rattle.cy_model.specs.Connections.{History, connections, replies}
use Rattle.cy_model.specs.Entries.{trace_of}
use Rattle.cy_model.specs.Folds.{cause_of, charts}
use Rattle.cy_model.specs.Outputs.{output, took}
use Rattle.cy_model.specs.Marks.{Trace}
use Rattle.cy_model.specs.Replies.{Replied}

abbrev pub line_end : List ℕ
line_end = codes "\n"

-- ---- replies

-- a callback of a listener, by its number and its tag
abbrev pub listener_text : List ℕ → ℕ → ℕ → List ℕ
listener_text name listener tag = name ++ codes " " ++ decimal listener ++ codes " " ++ decimal tag

abbrev pub job_text : Job → List ℕ
job_text (job.Service part) = codes "service " ++ decimal part
job_text (job.Again part) = codes "again " ++ decimal part
job_text job.Resume = codes "resume"
job_text job.Readable = codes "readable"
job_text job.AllRead = codes "allread"
job_text job.Writable = codes "writable"
job_text job.ReadError = codes "readerror"
job_text job.WriteError = codes "writeerror"
job_text (job.OnTimeout listener tag) = listener_text (codes "ontimeout") listener tag
job_text (job.OnError listener tag) = listener_text (codes "onerror") listener tag
job_text (job.OnComplete listener tag) = listener_text (codes "oncomplete") listener tag

-- the names of the states, as Tomcat's documentation of asynchronous processing has them
abbrev pub state_name : State → List ℕ
state_name state.Dispatched = codes "DISPATCHED"
state_name state.Starting = codes "STARTING"
state_name state.Started = codes "STARTED"
state_name state.ReadWriteOp = codes "READ_WRITE_OP"
state_name state.MustComplete = codes "MUST_COMPLETE"
state_name state.CompletePending = codes "COMPLETE_PENDING"
state_name state.Completing = codes "COMPLETING"
state_name state.TimingOut = codes "TIMING_OUT"
state_name state.MustDispatch = codes "MUST_DISPATCH"
state_name state.DispatchPending = codes "DISPATCH_PENDING"
state_name state.Dispatching = codes "DISPATCHING"
state_name state.MustError = codes "MUST_ERROR"
state_name state.Error = codes "ERROR"

-- why a step is refused, for each of these replies
abbrev pub refusal_name : Reply → List ℕ
refusal_name (reply.Illegal s) = codes "Illegal " ++ state_name s
refusal_name reply.Unsupported = codes "Unsupported"
refusal_name reply.AlreadySet = codes "AlreadySet"
refusal_name reply.Committed = codes "Committed"
refusal_name reply.BadValue = codes "BadValue"
refusal_name reply.NotActive = codes "NotActive"
refusal_name reply.NoConn = codes "NoConn"
refusal_name reply.NoPass = codes "NoPass"
refusal_name reply.Ended = codes "Ended"
refusal_name reply.Closed = codes "Closed"
refusal_name (reply.TooMany n) = codes "TooMany " ++ decimal n
refusal_name r = []

-- with these bytes beside it
unfoldable pub reply_text : Reply → List ℕ → List ℕ
reply_text reply.Done got = codes "Done"
reply_text reply.Wake got = codes "Wake"
reply_text reply.Entered got = codes "Entered"
reply_text (reply.Full n) got = codes "Full " ++ decimal n
reply_text (reply.Taken n) got = codes "Taken " ++ decimal n
reply_text (reply.Got n) got = codes "Got \"" ++ quoted got ++ codes "\""
reply_text reply.GotEnd got = codes "GotEnd"
reply_text reply.Again got = codes "Again"
reply_text (reply.Ready true) got = codes "Ready true"
reply_text (reply.Ready false) got = codes "Ready false"
reply_text (reply.Begun j) got = codes "Begun " ++ job_text j
reply_text reply.Idle got = codes "Idle"
reply_text r got = refusal_name r

-- the line of the step of this number
unfoldable pub reply_line : ℕ → Replied → List ℕ
reply_line number r = decimal number ++ codes " " ++ reply_text r.reply r.got ++ line_end

-- the lines of steps that are numbered from here on
abbrev pub reply_lines : ℕ → List Replied → List ℕ
reply_lines number [] = []
reply_lines number (r ∷ rs) = reply_line number r ++ reply_lines (number + 1) rs

-- ---- connections

abbrev pub cause_name : CloseCause → List ℕ
cause_name cause.LastAnswer = codes "LastAnswer"
cause_name cause.Refused = codes "Refused"
cause_name cause.BadBody = codes "BadBody"
cause_name cause.SwallowLimit = codes "SwallowLimit"
cause_name cause.ShortAnswer = codes "ShortAnswer"
cause_name cause.FailedAnswer = codes "FailedAnswer"
cause_name cause.IdleTimeout = codes "IdleTimeout"
cause_name cause.AwaitTimeout = codes "AwaitTimeout"
cause_name cause.InputEnd = codes "InputEnd"
cause_name cause.InFault = codes "InFault"
cause_name cause.OutFault = codes "OutFault"
cause_name cause.Shut = codes "Shut"

-- a connection without a cause to close is open
abbrev pub cause_text : Option CloseCause → List ℕ
cause_text None = codes "open"
cause_text (Some k) = cause_name k

abbrev pub call_name : Call → List ℕ
call_name call.Start = codes "Start"
call_name call.CompleteOwn = codes "CompleteOwn"
call_name call.CompleteOther = codes "CompleteOther"
call_name call.DispatchOwn = codes "DispatchOwn"
call_name call.DispatchOther = codes "DispatchOther"
call_name call.Timeout = codes "Timeout"
call_name call.Fault = codes "Fault"
call_name call.Fail = codes "Fail"
call_name call.Run = codes "Run"
call_name call.Return = codes "Return"

-- an item of a chart, with a space before it: a call, or how many cycles follow each other
abbrev pub chart_item : ChartItem → List ℕ
chart_item (One k) = codes " " ++ call_name k
chart_item (Cycles n) = codes " Cycles " ++ decimal n

-- the chart of a request of a connection
unfoldable pub chart_line : ℕ → ℕ → List ChartItem → List ℕ
chart_line conn request items =
    codes "chart " ++ decimal conn ++ codes " " ++ decimal request ++ flat_map chart_item items ++ line_end

-- the charts of requests that are numbered from here on
abbrev pub chart_lines : ℕ → ℕ → List (List ChartItem) → List ℕ
chart_lines conn request [] = []
chart_lines conn request (items ∷ rest) = chart_line conn request items ++ chart_lines conn (request + 1) rest

-- What a connection came to: why it closes, how much its socket took of how much was written, all that was written,
-- and the charts.
unfoldable pub connection_text : ℕ → Option CloseCause → ℕ → List ℕ → List (List ChartItem) → List ℕ
connection_text conn why taken written items =
    codes "conn " ++ decimal conn ++ codes " " ++ cause_text why ++ codes " took " ++ decimal taken ++ codes " of "
    ++ decimal (length written) ++ line_end ++ codes "out \"" ++ quoted written ++ codes "\"" ++ line_end
    ++ chart_lines conn 1 items

abbrev pub trace_text : ℕ → Trace → List ℕ
trace_text conn T = connection_text conn (cause_of T) (took T) (output T) (map chart_of (charts T))

abbrev pub history_text : Limits → List Rule → History → List ℕ
history_text limits rules h = trace_text h.number (trace_of limits rules h.entries)

-- by rising number
abbrev pub put_by_number : History → List History → List History
put_by_number h [] = h ∷ []
put_by_number h (g ∷ gs) = let rest = put_by_number h gs in if nat_lt h.number g.number then h ∷ g ∷ gs else g ∷ rest

abbrev pub by_number : List History → List History
by_number [] = []
by_number (h ∷ hs) = put_by_number h (by_number hs)

-- ---- the report of steps, the first first
unfoldable pub report : Limits → List Rule → List Step → List ℕ
report limits rules steps =
    let w = reverse steps in
    reply_lines 1 (replies limits rules w)
    ++ flat_map (history_text limits rules) (by_number (connections limits rules w))
