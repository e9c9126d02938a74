-- What each thing that happens does to the parts of a processor and of the line of its connection.
use Rattle.std.specs.Prelude.{ℕ, ◌+◌, Bool, ◌&&◌, not, List, [], ◌++◌, length, take, drop, Option, Some, None, is_some, if◌then◌else◌, ◌==◌}
use Rattle.cy_event.specs.declared.limits.Limits.{Limits}
use Rattle.cy_event.specs.declared.steps.Call.TheVariants as call
use Rattle.cy_event.specs.declared.steps.CloseCause.{CloseCause}
use Rattle.cy_event.specs.declared.steps.Job.{Job}
use Rattle.cy_event.specs.declared.steps.Job.TheVariants as job
use Rattle.cy_event.specs.declared.steps.Reply.{Reply}
use Rattle.cy_event.specs.declared.steps.Reply.TheVariants as reply
use Rattle.cy_event.specs.Answers.{Answer, after_put, error_answer, fresh_answer, takes}
use Rattle.cy_event.specs.Framings.{bad_request}
use Rattle.cy_event.specs.Heads.{Head}
use Rattle.cy_in.specs.Intakes.{content_read, is_ready}
use Rattle.cy_in.specs.Reads.{reply_of_read}
use Rattle.cy_map.specs.declared.rule.Rule.{Rule}
use Rattle.cy_model.specs.Endings.{is_bad_request}
use Rattle.cy_model.specs.Marks.{TakenUp}
use Rattle.cy_model.specs.Settling.{Due, nothing, refusal, not_found, request, due_by_front, due_by_verdict}
use Rattle.cy_model.specs.Verdicts.{not_found_status, verdict_of}
use Rattle.cy_states.specs.Progress.{after_call}
use Rattle.cy_proc.specs.Lines.{LineParts}
use Rattle.cy_proc.specs.LineChanges.{after_begin, after_end_of, after_refusal, after_rest, front_at, read_line}
use Rattle.cy_proc.specs.Processors.{ProcessorParts, table_of}
use Rattle.cy_proc.specs.declared.processor.Stage.{Stage}
use Rattle.cy_proc.specs.declared.processor.Stage.TheVariants as stage

-- ---- taking up a head

-- What is due, but for the place of the head, which nobody keeps: 0 stands for it.
abbrev pub due_at : Limits → List Rule → LineParts → Due
due_at limits rules l = due_by_front limits rules 0 (l.begun + 1) (front_at limits l)

-- the same of a head of this size
abbrev pub due_of_head : Limits → List Rule → ℕ → Head → LineParts → Due
due_of_head limits rules size head l = due_by_verdict limits 0 (l.begun + 1) size head (verdict_of rules head)

-- a line from which what is due was taken up
abbrev pub line_with : Due → LineParts → LineParts
line_with nothing l = l
line_with (refusal status to_head) l = after_refusal status to_head l
line_with (not_found r) l = after_end_of r.keep r.head.minor (error_answer not_found_status) (after_begin r.size r.framing r.max_trailer r.go_on l)
line_with (request r) l = after_begin r.size r.framing r.max_trailer r.go_on l

-- a free processor with a request
abbrev pub with_request : Stage → TakenUp → ProcessorParts → ProcessorParts
with_request at_stage r p = record p {
  stage = at_stage;
  table = table_of r.head;
  part = r.part;
  can_async = r.can_async;
  keep = r.keep;
}

-- the same, by what is due
abbrev pub processor_with : Due → ProcessorParts → ProcessorParts
processor_with nothing p = p
processor_with (refusal status to_head) p = record p { stage = stage.Refused }
processor_with (not_found r) p = with_request stage.Over r p
processor_with (request r) p = with_request stage.Owed r p

-- ---- callbacks

-- the callback that is owed
abbrev pub owed_at : Stage → ℕ → Option Job
owed_at stage.Owed part = Some (job.Service part)
owed_at s part = None

abbrev pub job_at : ProcessorParts → Option Job
job_at p = owed_at p.stage p.part

-- it begins
abbrev pub after_job : Option Job → ProcessorParts → ProcessorParts
after_job None p = p
after_job (Some j) p = record p { stage = stage.Serving; progress = after_call p.progress call.Run }

-- ---- acts

-- how much of n bytes of content is taken
abbrev pub write_room : ProcessorParts → ℕ → ℕ
write_room p n = takes (length p.content) n

-- none is taken of a write that asks for some
abbrev pub has_no_room : ProcessorParts → ℕ → Bool
has_no_room p n = not (n == 0) && (write_room p n == 0)

abbrev pub write_reply : ProcessorParts → ℕ → Reply
write_reply p n = if has_no_room p n then reply.Again else reply.Taken (write_room p n)

abbrev pub after_write : ℕ → List ℕ → ProcessorParts → ProcessorParts
after_write n b p = if has_no_room p n then p else record p { content = p.content ++ take (write_room p n) b }

-- its answer so far
abbrev pub answer_at : ProcessorParts → Answer
answer_at p = after_put p.content fresh_answer

-- the service returns, and the request is over; nothing waits any more
abbrev pub after_return : ProcessorParts → ProcessorParts
after_return p = record p { stage = stage.Over; progress = after_call p.progress call.Return; content = [] }

-- the answer as it goes out: what was no request is told so
abbrev pub answer_returned : Option CloseCause → ProcessorParts → Answer
answer_returned cause p = if is_bad_request cause then error_answer bad_request else answer_at p

-- the line after it
abbrev pub line_returned : ProcessorParts → LineParts → LineParts
line_returned p l = after_end_of p.keep p.table.head.minor (answer_returned l.cause p) l

-- The line after a read of at most n bytes. One that comes to nothing is no step, nor is one where there is a cause to close.
abbrev pub line_read : Limits → ℕ → LineParts → LineParts
line_read limits n l =
    if is_some l.cause then l else if is_ready l.body then after_rest limits (read_line n l) else l

abbrev pub read_reply : ℕ → LineParts → Reply
read_reply n l = if is_some l.cause then reply.Closed else reply_of_read n l.body l.unread

-- what a read gives of at most n bytes
abbrev pub read_content : ℕ → LineParts → List ℕ
read_content n l = if is_some l.cause then [] else content_read n l.body l.unread

-- it stands at the front of the buffer, behind which nothing changes
abbrev pub read_into : LineParts → List ℕ → List ℕ
read_into l into =
    let content = read_content (length into) l in
    content ++ drop (length content) into
