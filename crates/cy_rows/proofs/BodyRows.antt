-- Worked examples of requests with bodies, by entries: read or left unread, bad, cut off, passed over, in one piece and in
-- single bytes. Written down by hand.
use Rattle.std.proofs.Common.{◌≡◌, ℕ, zero, suc, true, false, List, [], ◌∷◌, ◌++◌, Option, Some, None, codes, length, refl, replicate, take}
use Rattle.std.specs.Prelude.{⊤, map}
use Rattle.std.specs.Fmt.{digits}
use Rattle.cy_event.specs.declared.limits.Limits.{Limits}
use Rattle.cy_event.specs.declared.steps.Act.TheVariants as act
use Rattle.cy_event.specs.declared.steps.Call.{Call}
use Rattle.cy_event.specs.declared.steps.Call.TheVariants as call
use Rattle.cy_event.specs.declared.steps.CloseCause.{CloseCause}
use Rattle.cy_event.specs.declared.steps.CloseCause.TheVariants as cause
use Rattle.cy_event.specs.declared.steps.Event.TheVariants as event
use Rattle.cy_event.specs.declared.steps.Job.TheVariants as job
use Rattle.cy_event.specs.declared.steps.Reply.TheVariants as reply
use Rattle.cy_event.specs.Answers.{head_text}
use Rattle.cy_event.specs.Bodies.{bodies_on_literals}
use Rattle.cy_event.specs.Dates.{count_off, date_at}
use Rattle.cy_event.specs.Framings.{framings_on_literals}
use Rattle.cy_event.specs.Heads.{heads_on_literals}
use Rattle.cy_event.specs.Limits.{standard}
use Rattle.cy_event.specs.Targets.{targets_on_literals}
use Rattle.cy_map.specs.declared.rule.Rule.{Rule}
use Rattle.cy_model.specs.Entries.{Entry, after, on_act, on_event, on_run, opening, reply_to}
use Rattle.cy_model.specs.Folds.{cause_of, charts}
use Rattle.cy_model.specs.Marks.{Trace}
use Rattle.cy_model.specs.Outputs.{is_gone, output}
use Rattle.cy_model.specs.Replies.{Replied, plain}
use Rattle.cy_model.specs.Settling.{settled}
use Rattle.cy_model.specs.Verdicts.{verdict_of}

-- what these rows unfold
unfoldable answers_on_literals : ⊤
unfolding head_text date_at count_off digits
answers_on_literals = tt

unfoldable reading_on_literals : ⊤
unfolding bodies_on_literals framings_on_literals targets_on_literals heads_on_literals
reading_on_literals = tt

unfoldable entries_on_literals : ⊤
unfolding after reply_to settled verdict_of reading_on_literals answers_on_literals
entries_on_literals = tt

-- ---- entries one after another, all at the moment 0

abbrev rules : List Rule
rules = record { pattern = codes "/"; part = 0; can_async = true } ∷ []

-- what each is answered
abbrev answers_by : Limits → List Rule → Trace → List Entry → List Replied
answers_by limits served T [] = []
answers_by limits served T (e ∷ entries) =
    reply_to limits served 0 T e ∷ answers_by limits served (after limits served 0 T e) entries

-- the trace that they lead to
abbrev trace_by : Limits → List Rule → Trace → List Entry → Trace
trace_by limits served T [] = T
trace_by limits served T (e ∷ entries) = trace_by limits served (after limits served 0 T e) entries

abbrev answers : Trace → List Entry → List Replied
answers T entries = answers_by (standard 1) rules T entries

abbrev leads : List Entry → Trace
leads entries = trace_by (standard 1) rules [] entries

abbrev comes : List ℕ → Entry
comes bytes = on_event event.In bytes

-- each byte by itself
abbrev singly : List ℕ → List Entry
singly bytes = map (λ b. comes (b ∷ [])) bytes

abbrev ends : Entry
ends = on_event event.End []

abbrev reads : ℕ → Entry
reads n = on_act (act.Read n) []

abbrev writes : List ℕ → Entry
writes bytes = on_act (act.Write (length bytes)) bytes

abbrev returns : Entry
returns = on_act act.Return []

-- what is seen of it: all that was written, the charts, and the cause
record Seen : Type 0 where
  written : List ℕ
  calls : List (List Call)
  cause : Option CloseCause

abbrev seen : Trace → Seen
seen T = record { written = output T; calls = charts T; cause = cause_of T }

abbrev served : List Call
served = call.Run ∷ call.Return ∷ []

-- ---- texts

abbrev post : List ℕ → List ℕ
post field = codes "POST / HTTP/1.1\r\nHost: a\r\n" ++ field ++ codes "\r\n\r\n"

abbrev in_chunks : List ℕ
in_chunks = post (codes "Transfer-Encoding: chunked")

abbrev of_ten : List ℕ
of_ten = post (codes "Content-Length: 10")

abbrev get : List ℕ
get = codes "GET / HTTP/1.1\r\nHost: a\r\n\r\n"

abbrev date : List ℕ
date = codes "Date: Thu, 01 Jan 1970 00:00:00 GMT\r\n"

-- the answer without content, of 73 bytes
abbrev empty : List ℕ
empty = codes "HTTP/1.1 200 \r\nContent-Length: 0\r\n" ++ date ++ codes "\r\n"

abbrev error_text : List ℕ → List ℕ → List ℕ
error_text status connection =
    codes "HTTP/1.1 " ++ status ++ codes " \r\nContent-Type: text/plain\r\nContent-Length: 10\r\n" ++ date ++ connection
    ++ codes "\r\nError " ++ status ++ codes "\n"

-- the answer to what was no request, of 129 bytes
abbrev bad_request : List ℕ
bad_request = error_text (codes "400") (codes "Connection: close\r\n")

-- ---- a body in chunks of 30 bytes, with an extension and a trailer, is read

abbrev thirty : List ℕ
thirty = codes "3;x=1\r\nabc\r\n2\r\nde\r\n0\r\nT: v\r\n\r\n"

they_are : length in_chunks ∷ length thirty ∷ [] ≡ 56 ∷ 30 ∷ []
they_are = refl

abbrev read_twice : List Entry
read_twice = on_run ∷ reads 10 ∷ reads 10 ∷ []

abbrev content_and_end : List Replied
content_and_end =
    plain (reply.Begun (job.Service 0)) ∷ record { reply = reply.Got 5; got = codes "abcde" } ∷ plain reply.GotEnd ∷ []

read_of_one_piece : answers [] (opening ∷ comes (in_chunks ++ thirty) ∷ read_twice)
    ≡ plain reply.Entered ∷ plain (reply.Taken 86) ∷ content_and_end
unfolding entries_on_literals
read_of_one_piece = refl

read_of_single_bytes : answers (leads (opening ∷ singly (in_chunks ++ thirty))) read_twice ≡ content_and_end
unfolding entries_on_literals
read_of_single_bytes = refl

-- piece by piece as it comes
read_as_it_comes : map (λ r. r.got)
    (answers (leads (opening ∷ comes in_chunks ∷ on_run ∷ []))
    (comes (codes "3;x=1\r\na") ∷ reads 10 ∷ reads 10 ∷ comes (codes "bc\r\n2\r\nd") ∷ reads 2 ∷ reads 0 ∷ reads 2 ∷ []))
    ≡ [] ∷ codes "a" ∷ [] ∷ [] ∷ codes "bc" ∷ [] ∷ codes "d" ∷ []
unfolding entries_on_literals
read_as_it_comes = refl

-- ---- a body that nobody reads, and a second head behind it in the same piece

abbrev unread : List ℕ
unread = post (codes "Content-Length: 3") ++ codes "xyz" ++ get

abbrev two_turns : List Entry
two_turns = on_run ∷ returns ∷ on_run ∷ returns ∷ []

unread_is_no_head : answers [] (opening ∷ comes unread ∷ two_turns)
    ≡ plain reply.Entered ∷ plain (reply.Taken 77) ∷ plain (reply.Begun (job.Service 0)) ∷ plain reply.Done
    ∷ plain (reply.Begun (job.Service 0)) ∷ plain reply.Done ∷ []
unfolding entries_on_literals
unread_is_no_head = refl

two_answers : seen (leads (opening ∷ comes unread ∷ two_turns))
    ≡ record { written = empty ++ empty; calls = served ∷ served ∷ []; cause = None }
unfolding entries_on_literals
two_answers = refl

two_answers_by_single_bytes : seen (leads (opening ∷ singly unread ++ two_turns))
    ≡ record { written = empty ++ empty; calls = served ∷ served ∷ []; cause = None }
unfolding entries_on_literals
two_answers_by_single_bytes = refl

they_have_146_bytes : length (empty ++ empty) ≡ 146
they_have_146_bytes = refl

-- ---- a bad body while its request is open: at once the cause, no content that came before it, and 400 in place of what
-- was put

abbrev bad : List ℕ
bad = codes "3\r\nabc\r\nX"

bad_is_closed : answers (leads (opening ∷ comes in_chunks ∷ on_run ∷ []))
    (writes (codes "hello") ∷ comes bad ∷ reads 10 ∷ writes (codes "a") ∷ comes (codes "1") ∷ ends ∷ returns ∷ [])
    ≡ map plain
    (reply.Taken 5 ∷ reply.Taken 9 ∷ reply.Closed ∷ reply.Closed ∷ reply.Closed ∷ reply.Closed ∷ reply.Done ∷ [])
unfolding entries_on_literals
bad_is_closed = refl

abbrev bad_came : List Entry → Trace
bad_came pieces = leads (opening ∷ comes in_chunks ∷ on_run ∷ writes (codes "hello") ∷ pieces ++ returns ∷ [])

bad_is_answered : seen (bad_came (comes bad ∷ []))
    ≡ record { written = bad_request; calls = served ∷ []; cause = Some cause.BadBody }
unfolding entries_on_literals
bad_is_answered = refl

bad_by_single_bytes : seen (bad_came (singly bad))
    ≡ record { written = bad_request; calls = served ∷ []; cause = Some cause.BadBody }
unfolding entries_on_literals
bad_by_single_bytes = refl

-- also where content was read before
bad_behind_content : answers (leads (opening ∷ comes (in_chunks ++ codes "3\r\nabc") ∷ on_run ∷ []))
    (reads 2 ∷ comes (codes "\rX") ∷ reads 2 ∷ [])
    ≡ record { reply = reply.Got 2; got = codes "ab" } ∷ plain (reply.Taken 2) ∷ plain reply.Closed ∷ []
unfolding entries_on_literals
bad_behind_content = refl

-- before the service has begun it is served all the same
bad_is_served : answers (leads (opening ∷ comes (in_chunks ++ bad) ∷ [])) (on_run ∷ reads 1 ∷ returns ∷ on_run ∷ [])
    ≡ map plain (reply.Begun (job.Service 0) ∷ reply.Closed ∷ reply.Done ∷ reply.Idle ∷ [])
unfolding entries_on_literals
bad_is_served = refl

-- ---- one behind the end of its request: the answer as it was

bad_behind_the_end : seen (leads (opening ∷ comes in_chunks ∷ on_run ∷ returns ∷ comes bad ∷ []))
    ≡ record { written = empty; calls = served ∷ []; cause = Some cause.BadBody }
unfolding entries_on_literals
bad_behind_the_end = refl

not_gone_yet : is_gone (leads (opening ∷ comes in_chunks ∷ on_run ∷ returns ∷ comes bad ∷ [])) ≡ false
unfolding entries_on_literals
not_gone_yet = refl

gone_once_it_is_sent : is_gone (leads (opening ∷ comes in_chunks ∷ on_run ∷ returns ∷ comes bad ∷ on_event (event.Took 73) [] ∷ []))
    ≡ true
unfolding entries_on_literals
gone_once_it_is_sent = refl

-- ---- where no rule serves the path

abbrev not_found : List ℕ
not_found = error_text (codes "404") []

abbrev unserved : List Entry → Seen
unserved entries = seen (trace_by (standard 1) [] [] (opening ∷ entries))

not_found_and_the_next : unserved (comes unread ∷ [])
    ≡ record { written = not_found ++ not_found; calls = [] ∷ [] ∷ []; cause = None }
unfolding entries_on_literals
not_found_and_the_next = refl

not_found_by_single_bytes : unserved (singly unread)
    ≡ record { written = not_found ++ not_found; calls = [] ∷ [] ∷ []; cause = None }
unfolding entries_on_literals
not_found_by_single_bytes = refl

not_found_and_bad : unserved (comes (in_chunks ++ bad) ∷ [])
    ≡ record { written = not_found; calls = [] ∷ []; cause = Some cause.BadBody }
unfolding entries_on_literals
not_found_and_bad = refl

not_found_and_cut_off : unserved (comes (in_chunks ++ codes "3\r\nab") ∷ ends ∷ [])
    ≡ record { written = not_found; calls = [] ∷ []; cause = Some cause.InputEnd }
unfolding entries_on_literals
not_found_and_cut_off = refl

-- ---- the input ends in each part of a body

-- behind so many of its bytes
abbrev cut_off_at : ℕ → Option CloseCause
cut_off_at n = cause_of (leads (opening ∷ comes (in_chunks ++ take n thirty) ∷ ends ∷ []))

abbrev up_to : ℕ → List ℕ
up_to zero = []
up_to (suc n) = up_to n ++ n ∷ []

cut_off_in_each_part : map cut_off_at (up_to 30) ≡ replicate 30 (Some cause.InputEnd)
unfolding entries_on_literals
cut_off_in_each_part = refl

not_cut_off : cut_off_at 30 ≡ None
unfolding entries_on_literals
not_cut_off = refl

cut_off_is_answered : seen (leads (opening ∷ comes (in_chunks ++ codes "3\r\nab") ∷ on_run ∷ ends ∷ returns ∷ []))
    ≡ record { written = bad_request; calls = served ∷ []; cause = Some cause.InputEnd }
unfolding entries_on_literals
cut_off_is_answered = refl

-- behind the end of its request the answer is as it was
cut_off_behind_the_end : seen (leads (opening ∷ comes (in_chunks ++ codes "3\r\nab") ∷ on_run ∷ returns ∷ ends ∷ []))
    ≡ record { written = empty; calls = served ∷ []; cause = Some cause.InputEnd }
unfolding entries_on_literals
cut_off_behind_the_end = refl
