-- Worked examples of one connection whose callbacks wait, hear of a fault, fail, or find the connection closed: the
-- marks of each step, and what is written, begun and told. Written down by hand.
use Rattle.std.proofs.Common.{◌≡◌, ℕ, true, false, List, [], ◌∷◌, ◌++◌, Option, Some, None, codes, length, refl, replicate}
use Rattle.std.specs.Prelude.{⊤, map}
use Rattle.std.specs.Fmt.{digits}
use Rattle.cy_event.specs.declared.framing.Framing.{Framing}
use Rattle.cy_event.specs.declared.framing.Framing.TheVariants as framing
use Rattle.cy_event.specs.declared.steps.Act.TheVariants as act
use Rattle.cy_event.specs.declared.steps.Call.{Call}
use Rattle.cy_event.specs.declared.steps.Call.TheVariants as call
use Rattle.cy_event.specs.declared.steps.CloseCause.TheVariants as cause
use Rattle.cy_event.specs.declared.steps.Event.TheVariants as event
use Rattle.cy_event.specs.declared.steps.Job.{Job}
use Rattle.cy_event.specs.declared.steps.Job.TheVariants as job
use Rattle.cy_event.specs.declared.steps.Reply.TheVariants as reply
use Rattle.cy_event.specs.declared.table.ChartItem.TheVariants.{One, Cycles}
use Rattle.cy_event.specs.Answers.{head_text}
use Rattle.cy_event.specs.Bodies.{bodies_on_literals}
use Rattle.cy_event.specs.Charts.{chart_of}
use Rattle.cy_event.specs.Dates.{count_off, date_at}
use Rattle.cy_event.specs.Framings.{framings_on_literals}
use Rattle.cy_event.specs.Heads.{Field, heads_on_literals}
use Rattle.cy_event.specs.Limits.{standard}
use Rattle.cy_event.specs.Targets.{targets_on_literals}
use Rattle.cy_map.specs.declared.rule.Rule.{Rule}
use Rattle.cy_model.specs.Endings.{end_marks, failure_marks, fault_marks}
use Rattle.cy_model.specs.Entries.{event_reply, is_closed_act, owed_after}
use Rattle.cy_model.specs.Folds.{cause_of, charts, running}
use Rattle.cy_model.specs.Inputs.{room, waiting}
use Rattle.cy_model.specs.Jobs.{is_readable, next_job}
use Rattle.cy_model.specs.Marks.{Mark, TakenUp, Trace, aborted, back, began, broken, called, came, caused, ended}
use Rattle.cy_model.specs.Marks.{error_answer, flushed, given, input_side, listened, not_ready, opened, over, parked, put}
use Rattle.cy_model.specs.Marks.{read_listener_set, started}
use Rattle.cy_model.specs.Outputs.{answer_of, is_gone, output}
use Rattle.cy_model.specs.Settling.{settled, with_marks}
use Rattle.cy_model.specs.Verdicts.{verdict_of}

-- what these rows unfold to settle traces
unfoldable answers_on_literals : ⊤
unfolding head_text date_at count_off digits
answers_on_literals = tt

unfoldable reading_on_literals : ⊤
unfolding bodies_on_literals framings_on_literals targets_on_literals heads_on_literals
reading_on_literals = tt

unfoldable settling_on_literals : ⊤
unfolding settled verdict_of reading_on_literals answers_on_literals
settling_on_literals = tt

-- ---- traces, by marks whose first is the first, all of moment 0

abbrev rules : List Rule
rules = record { pattern = codes "/"; part = 0; can_async = true } ∷ []

abbrev settles : Trace → Trace
settles T = settled (standard 1) rules 0 T

abbrev then : Trace → List Mark → Trace
then T marks = with_marks 0 marks T

abbrev own : Call → Mark
own k = called k None

abbrev field : List ℕ → List ℕ → Field
field name value = record { name = name; value = value }

abbrev host : Field
host = field (codes "Host") (codes "a")

abbrev request : ℕ → List ℕ → List Field → Framing → TakenUp
request size method fields f = record {
  place = 0;
  size = size;
  head = record { method = method; target = codes "/"; minor = 1; fields = fields };
  framing = f;
  max_trailer = 8192;
  async_timeout = 30000;
  part = 0;
  can_async = true;
  keep = true;
  go_on = false;
}

abbrev begun : TakenUp → List ℕ → Trace
begun r bytes = then [] (opened ∷ came bytes ∷ began r ∷ [])

abbrev service : List Mark
service = started (job.Service 0) ∷ own call.Run ∷ []

abbrev returns : List Mark
returns = back ∷ own call.Return ∷ []

abbrev no_job : Option Job
no_job = None

abbrev date : List ℕ
date = codes "Date: Thu, 01 Jan 1970 00:00:00 GMT\r\n"

abbrev answer : List ℕ → List ℕ → List ℕ
answer n content = codes "HTTP/1.1 200 \r\nContent-Length: " ++ n ++ codes "\r\n" ++ date ++ codes "\r\n" ++ content

abbrev error_text : List ℕ → List ℕ → List ℕ
error_text status connection =
    codes "HTTP/1.1 " ++ status ++ codes " \r\nContent-Type: text/plain\r\nContent-Length: 10\r\n" ++ date
    ++ connection
    ++ codes "\r\nError " ++ status ++ codes "\n"

-- ---- a read listener, and input that ends inside the body

abbrev post : List ℕ
post = codes "POST / HTTP/1.1\r\nHost: a\r\nTransfer-Encoding: chunked\r\n\r\n"

abbrev of_post : TakenUp
of_post =
    request 56 (codes "POST") (host ∷ field (codes "Transfer-Encoding") (codes "chunked") ∷ []) framing.Chunked

abbrev listening : Trace
listening =
    then (begun of_post (post ++ codes "5\r\nab")) (service ++ own call.Start ∷ read_listener_set ∷ returns)

content_is_told : next_job listening ≡ Some job.Readable
unfolding settling_on_literals
content_is_told = refl

abbrev reading : Trace
reading = then listening (started job.Readable ∷ own call.Run ∷ [])

content_that_waits : waiting reading ≡ codes "ab"
unfolding settling_on_literals
content_that_waits = refl

no_more_is_ready : is_readable (then reading (given 2 ∷ [])) ≡ false
unfolding settling_on_literals
no_more_is_ready = refl

abbrev read_some : Trace
read_some = then reading (given 2 ∷ not_ready input_side ∷ returns)

nothing_is_told : next_job (settles read_some) ≡ no_job
unfolding settling_on_literals
nothing_is_told = refl

abbrev cut_off : Trace
cut_off = then read_some (ended ∷ caused cause.InputEnd ∷ own call.Fault ∷ [])

end_is_a_fault : settles (then read_some (ended ∷ [])) ≡ cut_off
unfolding settling_on_literals
end_is_a_fault = refl

fault_is_told : next_job cut_off ≡ Some job.ReadError
unfolding settling_on_literals
fault_is_told = refl

abbrev fault_was_told : Trace
fault_was_told = then cut_off (started job.ReadError ∷ back ∷ [])

fault_ends_it : settles fault_was_told
    ≡ then fault_was_told (own call.Return ∷ error_answer 500 ∷ own call.Return ∷ error_answer 400 ∷ over ∷ [])
unfolding settling_on_literals
fault_ends_it = refl

fault_answer : output (settles fault_was_told) ≡ error_text (codes "400") (codes "Connection: close\r\n")
unfolding settling_on_literals
fault_answer = refl

fault_answer_has_129_bytes : length (output (settles fault_was_told)) ≡ 129
unfolding settling_on_literals
fault_answer_has_129_bytes = refl

fault_chart : map chart_of (charts (settles fault_was_told))
    ≡ (One call.Run ∷ One call.Start ∷ One call.Return ∷ Cycles 1 ∷ One call.Fault ∷ One call.Return ∷ One call.Return
    ∷ []) ∷ []
unfolding settling_on_literals
fault_chart = refl

-- ---- a client that waits for `100 Continue`, and a service that waits for its body

abbrev expecting : List ℕ
expecting = codes "POST / HTTP/1.1\r\nHost: a\r\nContent-Length: 2\r\nExpect: 100-continue\r\n\r\n"

abbrev of_expecting : TakenUp
of_expecting =
    record (request 69 (codes "POST")
    (host ∷ field (codes "Content-Length") (codes "2") ∷ field (codes "Expect") (codes "100-continue")
    ∷ []) (framing.Length 2)) {
      go_on = true;
    }

abbrev served : Trace
served = then (begun of_expecting expecting) service

continue_comes_first : output (begun of_expecting expecting) ≡ codes "HTTP/1.1 100 \r\n\r\n"
continue_comes_first = refl

nothing_to_read : is_readable served ≡ false
unfolding settling_on_literals
nothing_to_read = refl

abbrev waits : Trace
waits = then served (parked input_side ∷ [])

waiting_doesnt_run : running waits ≡ no_job
waiting_doesnt_run = refl

nobody_goes_on : next_job waits ≡ no_job
unfolding settling_on_literals
nobody_goes_on = refl

service_goes_on : next_job (then waits (came (codes "ok") ∷ [])) ≡ Some job.Resume
unfolding settling_on_literals
service_goes_on = refl

abbrev goes_on : Trace
goes_on = then waits (came (codes "ok") ∷ started job.Resume ∷ [])

it_is_the_service : running goes_on ≡ Some (job.Service 0)
it_is_the_service = refl

it_reads : waiting goes_on ≡ codes "ok"
unfolding settling_on_literals
it_reads = refl

abbrev answers : Trace
answers = then goes_on (given 2 ∷ put (codes "k") ∷ returns)

it_ends : end_marks answers ≡ over ∷ []
unfolding settling_on_literals
it_ends = refl

continue_and_answer : output (then answers (over ∷ []))
    ≡ codes "HTTP/1.1 100 \r\n\r\n" ++ answer (codes "1") (codes "k")
unfolding settling_on_literals
continue_and_answer = refl

they_have_91_bytes : length (output (then answers (over ∷ []))) ≡ 91
unfolding settling_on_literals
they_have_91_bytes = refl

-- ---- a connection that is shut before the service ran

abbrev get : List ℕ
get = codes "GET / HTTP/1.1\r\nHost: a\r\n\r\n"

abbrev of_get : TakenUp
of_get = request 27 (codes "GET") (host ∷ []) framing.None

abbrev shut : Trace
shut = then (begun of_get get) (caused cause.Shut ∷ broken ∷ [])

nobody_hears_of_it : fault_marks (begun of_get get) ≡ []
nobody_hears_of_it = refl

it_isnt_gone : is_gone shut ≡ false
it_isnt_gone = refl

it_is_served_still : next_job (settles shut) ≡ Some (job.Service 0)
unfolding settling_on_literals
it_is_served_still = refl

it_may_not_write : is_closed_act (act.Write 1) (then shut service) ≡ true
it_may_not_write = refl

abbrev shut_and_over : Trace
shut_and_over = then shut (service ++ returns ++ over ∷ [])

it_is_gone_at_last : is_gone shut_and_over ≡ true
unfolding settling_on_literals
it_is_gone_at_last = refl

nothing_is_written : output shut_and_over ≡ []
unfolding settling_on_literals
nothing_is_written = refl

-- a fault behind another cause leaves that one, and breaks the connection
later_fault : cause_of (then fault_was_told (caused cause.OutFault ∷ broken ∷ [])) ≡ Some cause.InputEnd
later_fault = refl

-- ---- a service that fails as it starts: what listeners of errors write is lost, unless they complete

abbrev failed : Trace
failed =
    then (begun of_get get)
    (service ++ own call.Start ∷ listened 7 ∷ put (codes "a") ∷ back ∷ own call.Fail ∷ error_answer 500 ∷ [])

nothing_was_out : failure_marks 500 (then (begun of_get get) (service ++ own call.Start ∷ put (codes "a") ∷ []))
    ≡ error_answer 500 ∷ []
unfolding settling_on_literals
nothing_was_out = refl

failure_is_told : next_job (settles failed) ≡ Some (job.OnError 0 7)
unfolding settling_on_literals
failure_is_told = refl

abbrev adds : List Mark → Trace
adds marks = then failed (started (job.OnError 0 7) ∷ put (codes "b") ∷ marks ++ back ∷ [])

error_is_put_again : settles (adds []) ≡ then (adds []) (own call.Return ∷ error_answer 500 ∷ [])
unfolding settling_on_literals
error_is_put_again = refl

then_completion : next_job (settles (adds [])) ≡ Some (job.OnComplete 0 7)
unfolding settling_on_literals
then_completion = refl

content_is_lost : (answer_of (settles (adds []))).content ≡ codes "Error 500\n"
unfolding settling_on_literals
content_is_lost = refl

out_is_broken_off : settles (adds (flushed ∷ [])) ≡ then (adds (flushed ∷ [])) (own call.Return ∷ aborted ∷ [])
unfolding settling_on_literals
out_is_broken_off = refl

completed_keeps_it : (answer_of (settles (adds (own call.CompleteOwn ∷ [])))).content ≡ codes "Error 500\nb"
unfolding settling_on_literals
completed_keeps_it = refl

-- ---- what comes behind an answer that was broken off is counted, and not written

abbrev broken_off : Trace
broken_off = then (begun of_get get) (service ++ put (codes "ab") ∷ flushed ∷ aborted ∷ [])

abbrev goes_on_writing : Trace
goes_on_writing = then broken_off (put (codes "cd") ∷ flushed ∷ put (codes "e") ∷ returns ++ over ∷ [])

not_written : output goes_on_writing ≡ output broken_off
unfolding settling_on_literals
not_written = refl

counted : (answer_of goes_on_writing).content ≡ codes "abcde"
counted = refl

-- ---- a turn that only settles

-- a thread completed, and a second request waits: it is taken up, and its service begins with the next turn
abbrev completed : Trace
completed = then (begun of_get (get ++ get)) (service ++ own call.Start ∷ returns ++ own call.CompleteOther ∷ [])

nothing_begins : owed_after completed (settles completed) ≡ no_job
unfolding settling_on_literals
nothing_begins = refl

the_next_turn_begins : owed_after (settles completed) (settles (settles completed)) ≡ Some (job.Service 0)
unfolding settling_on_literals
the_next_turn_begins = refl

-- ---- room is that before the step, also where what comes is passed over

abbrev passing_over : Trace
passing_over = then (begun (record of_post { framing = framing.Length 100000 }) post) (service ++ returns ++ over
    ∷ [])

room_before_the_step : event_reply passing_over event.In (replicate 40000 0) ≡ reply.Taken 16384
unfolding settling_on_literals
room_before_the_step = refl

room_behind_the_step : room (then passing_over (came (replicate 16384 0) ∷ [])) ≡ 16384
unfolding settling_on_literals
room_behind_the_step = refl
