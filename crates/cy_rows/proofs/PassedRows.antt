-- Worked examples of bodies that are passed over, by entries: at the limit and one beyond, with a bad byte before and
-- behind it, in one piece and in single bytes; and of clients that wait for `100 Continue`. Written down by hand.
use Rattle.std.proofs.Common.{◌≡◌, ℕ, true, List, [], ◌∷◌, ◌++◌, Option, Some, None, codes, length, refl, replicate, take}
use Rattle.std.specs.Prelude.{⊤, map}
use Rattle.std.specs.Fmt.{digits}
use Rattle.cy_event.specs.declared.limits.Limits.{Limits}
use Rattle.cy_event.specs.declared.steps.Act.TheVariants as act
use Rattle.cy_event.specs.declared.steps.Call.{Call}
use Rattle.cy_event.specs.declared.steps.Call.TheVariants as call
use Rattle.cy_event.specs.declared.steps.CloseCause.{CloseCause}
use Rattle.cy_event.specs.declared.steps.CloseCause.TheVariants as cause
use Rattle.cy_event.specs.declared.steps.Event.TheVariants as event
use Rattle.cy_event.specs.declared.steps.Reply.TheVariants as reply
use Rattle.cy_event.specs.Answers.{head_text}
use Rattle.cy_event.specs.Bodies.{bodies_on_literals}
use Rattle.cy_event.specs.Dates.{count_off, date_at}
use Rattle.cy_event.specs.Framings.{framings_on_literals}
use Rattle.cy_event.specs.Heads.{heads_on_literals}
use Rattle.cy_event.specs.Limits.{standard}
use Rattle.cy_event.specs.Targets.{targets_on_literals}
use Rattle.cy_map.specs.declared.rule.Rule.{Rule}
use Rattle.cy_model.specs.Entries.{Entry, after, on_act, on_event, on_run, opening, reply_to}
use Rattle.cy_model.specs.Folds.{cause_of, charts}
use Rattle.cy_model.specs.Inputs.{room}
use Rattle.cy_model.specs.Marks.{Trace}
use Rattle.cy_model.specs.Outputs.{output}
use Rattle.cy_model.specs.Replies.{Replied, plain}
use Rattle.cy_model.specs.Settling.{settled}
use Rattle.cy_model.specs.Verdicts.{verdict_of}

-- what these rows unfold
unfoldable answers_on_literals : ⊤
unfolding head_text date_at count_off digits
answers_on_literals = tt

unfoldable reading_on_literals : ⊤
unfolding bodies_on_literals framings_on_literals targets_on_literals heads_on_literals
reading_on_literals = tt

unfoldable entries_on_literals : ⊤
unfolding after reply_to settled verdict_of reading_on_literals answers_on_literals
entries_on_literals = tt

-- ---- entries one after another, all at the moment 0

abbrev rules : List Rule
rules = record { pattern = codes "/"; part = 0; can_async = true } ∷ []

-- what each is answered
abbrev answers_by : Limits → List Rule → Trace → List Entry → List Replied
answers_by limits served T [] = []
answers_by limits served T (e ∷ entries) =
    reply_to limits served 0 T e ∷ answers_by limits served (after limits served 0 T e) entries

-- the trace that they lead to
abbrev trace_by : Limits → List Rule → Trace → List Entry → Trace
trace_by limits served T [] = T
trace_by limits served T (e ∷ entries) = trace_by limits served (after limits served 0 T e) entries

abbrev answers : Trace → List Entry → List Replied
answers T entries = answers_by (standard 1) rules T entries

abbrev leads : List Entry → Trace
leads entries = trace_by (standard 1) rules [] entries

abbrev comes : List ℕ → Entry
comes bytes = on_event event.In bytes

-- each byte by itself
abbrev singly : List ℕ → List Entry
singly bytes = map (λ b. comes (b ∷ [])) bytes

abbrev ends : Entry
ends = on_event event.End []

abbrev reads : ℕ → Entry
reads n = on_act (act.Read n) []

abbrev writes : List ℕ → Entry
writes bytes = on_act (act.Write (length bytes)) bytes

abbrev returns : Entry
returns = on_act act.Return []

-- what is seen of it: all that was written, the charts, and the cause
record Seen : Type 0 where
  written : List ℕ
  calls : List (List Call)
  cause : Option CloseCause

abbrev seen : Trace → Seen
seen T = record { written = output T; calls = charts T; cause = cause_of T }

abbrev served : List Call
served = call.Run ∷ call.Return ∷ []

-- ---- texts

abbrev post : List ℕ → List ℕ
post field = codes "POST / HTTP/1.1\r\nHost: a\r\n" ++ field ++ codes "\r\n\r\n"

abbrev in_chunks : List ℕ
in_chunks = post (codes "Transfer-Encoding: chunked")

abbrev of_ten : List ℕ
of_ten = post (codes "Content-Length: 10")

abbrev get : List ℕ
get = codes "GET / HTTP/1.1\r\nHost: a\r\n\r\n"

abbrev date : List ℕ
date = codes "Date: Thu, 01 Jan 1970 00:00:00 GMT\r\n"

-- the answer without content
abbrev empty : List ℕ
empty = codes "HTTP/1.1 200 \r\nContent-Length: 0\r\n" ++ date ++ codes "\r\n"

-- ---- ten bytes that come behind the end of their request, and a head behind them

abbrev ten : List ℕ
ten = codes "0123456789"

-- where so many bytes may be passed over
abbrev passes : ℕ → List Entry → Seen
passes most entries = seen (trace_by (record (standard 1) { max_swallow = most }) rules [] entries)

abbrev behind_the_end : List ℕ → List Entry → List Entry
behind_the_end head entries = opening ∷ comes head ∷ on_run ∷ returns ∷ entries

abbrev once : Option CloseCause → Seen
once k = record { written = empty; calls = served ∷ []; cause = k }

-- the next head is taken up
abbrev twice : Seen
twice = record { written = empty; calls = served ∷ [] ∷ []; cause = None }

ten_of_ten : map (λ most. passes most (behind_the_end of_ten (comes (ten ++ get) ∷ []))) (9 ∷ 10 ∷ 11 ∷ [])
    ≡ once (Some cause.SwallowLimit) ∷ twice ∷ twice ∷ []
unfolding entries_on_literals
ten_of_ten = refl

ten_by_single_bytes : map (λ most. passes most (behind_the_end of_ten (singly (ten ++ get)))) (9 ∷ 10 ∷ [])
    ≡ once (Some cause.SwallowLimit) ∷ twice ∷ []
unfolding entries_on_literals
ten_by_single_bytes = refl

-- none may be: the body may be empty, or come before the end
none_of_none : passes 0 (behind_the_end of_ten (comes [] ∷ [])) ≡ once None
unfolding entries_on_literals
none_of_none = refl

one_of_none : passes 0 (behind_the_end of_ten (comes (codes "0") ∷ [])) ≡ once (Some cause.SwallowLimit)
unfolding entries_on_literals
one_of_none = refl

-- what came before the end and wasn't read is passed over with it, and what was read isn't
abbrev read_of_ten : ℕ → ℕ → Seen
read_of_ten n most = passes most (opening ∷ comes (of_ten ++ ten) ∷ on_run ∷ reads n ∷ returns ∷ [])

what_was_read : map (read_of_ten 4) (5 ∷ 6 ∷ []) ≡ once (Some cause.SwallowLimit) ∷ once None ∷ []
unfolding entries_on_literals
what_was_read = refl

all_was_read : read_of_ten 10 0 ≡ once None
unfolding entries_on_literals
all_was_read = refl

-- of chunks the end is passed over too, unless it was told
abbrev one_chunk : List ℕ
one_chunk = codes "1\r\na\r\n0\r\n\r\n"

abbrev read_of_a_chunk : List Entry → ℕ → Seen
read_of_a_chunk entries most = passes most (opening ∷ comes (in_chunks ++ one_chunk) ∷ on_run ∷ reads 1 ∷ entries ++ returns ∷ [])

not_its_end : map (read_of_a_chunk []) (6 ∷ 7 ∷ []) ≡ once (Some cause.SwallowLimit) ∷ once None ∷ []
unfolding entries_on_literals
not_its_end = refl

its_end_too : read_of_a_chunk (reads 1 ∷ []) 0 ≡ once None
unfolding entries_on_literals
its_end_too = refl

-- ---- the byte at place 6 is bad: it is one beyond the limit of 5, and that of 6 is reached before it

abbrev bad_at_6 : List ℕ
bad_at_6 = codes "3\r\nabcX"

bad_or_too_long : map (λ most. passes most (behind_the_end in_chunks (comes bad_at_6 ∷ []))) (0 ∷ 5 ∷ 6 ∷ 7 ∷ [])
    ≡ map once (Some cause.SwallowLimit ∷ Some cause.SwallowLimit ∷ Some cause.BadBody ∷ Some cause.BadBody ∷ [])
unfolding entries_on_literals
bad_or_too_long = refl

bad_by_single_bytes : map (λ most. passes most (behind_the_end in_chunks (singly bad_at_6))) (0 ∷ 5 ∷ 6 ∷ 7 ∷ [])
    ≡ map once (Some cause.SwallowLimit ∷ Some cause.SwallowLimit ∷ Some cause.BadBody ∷ Some cause.BadBody ∷ [])
unfolding entries_on_literals
bad_by_single_bytes = refl

-- a bad first byte comes before each limit
bad_at_once : passes 0 (behind_the_end in_chunks (comes (codes "X") ∷ [])) ≡ once (Some cause.BadBody)
unfolding entries_on_literals
bad_at_once = refl

-- the limit stands before the end of the input, which comes later
then_the_end : passes 2 (behind_the_end in_chunks (comes (codes "3\r\n") ∷ ends ∷ [])) ≡ once (Some cause.SwallowLimit)
unfolding entries_on_literals
then_the_end = refl

-- ---- nothing more comes behind an answer that closes, and what came is used up

abbrev closing_head : List ℕ
closing_head = post (codes "Connection: close\r\nContent-Length: 10")

closed_to_the_rest : answers (leads (opening ∷ comes (closing_head ++ codes "01234") ∷ on_run ∷ returns ∷ [])) (comes (codes "5") ∷ ends ∷ on_run ∷ [])
    ≡ plain reply.Closed ∷ plain reply.Closed ∷ plain reply.Idle ∷ []
unfolding entries_on_literals
closed_to_the_rest = refl

its_cause : cause_of (leads (opening ∷ comes (closing_head ++ codes "01234") ∷ on_run ∷ returns ∷ [])) ≡ Some cause.LastAnswer
unfolding entries_on_literals
its_cause = refl

its_room : room (leads (opening ∷ comes (closing_head ++ codes "01234") ∷ on_run ∷ returns ∷ [])) ≡ 16384
unfolding entries_on_literals
its_room = refl

-- ---- room that is full, and what is passed over makes room

abbrev long : List ℕ
long = post (codes "Content-Length: 100000")

abbrev full : List Entry
full = opening ∷ comes long ∷ on_run ∷ comes (replicate 16384 0) ∷ []

full_takes_none : answers (leads full) (comes (codes "a") ∷ []) ≡ plain (reply.Taken 0) ∷ []
unfolding entries_on_literals
full_takes_none = refl

-- an end makes room for all of it
full_and_over : room (leads (full ++ returns ∷ [])) ≡ 16384
unfolding entries_on_literals
full_and_over = refl

-- a piece is taken by the room before it
forty_thousand : answers (leads (opening ∷ comes long ∷ on_run ∷ returns ∷ [])) (comes (replicate 40000 0) ∷ comes (replicate 40000 0) ∷ [])
    ≡ plain (reply.Taken 16384) ∷ plain (reply.Taken 16384) ∷ []
unfolding entries_on_literals
forty_thousand = refl

-- ---- `100 Continue`

abbrev continue : List ℕ
continue = codes "HTTP/1.1 100 \r\n\r\n"

abbrev written_for : List ℕ → List ℕ
written_for head = output (leads (opening ∷ comes head ∷ []))

due_for_a_body : map written_for
    (post (codes "Expect: 100-continue\r\nContent-Length: 1") ∷ post (codes "Expect: 100-Continue\r\nTransfer-Encoding: chunked")
    ∷ [])
    ≡ continue ∷ continue ∷ []
unfolding entries_on_literals
due_for_a_body = refl

not_due : map written_for
    (post (codes "Expect: 100-continue\r\nContent-Length: 0") ∷ post (codes "Expect: 100-continue")
    ∷ post (codes "Expect: \r\nContent-Length: 1") ∷ post (codes "Content-Length: 1")
    ∷ codes "POST / HTTP/1.0\r\nExpect: 100-continue\r\nContent-Length: 1\r\n\r\n" ∷ [])
    ≡ replicate 5 []
unfolding entries_on_literals
not_due = refl

-- it stands before the answer, also where the body had come before it
before_the_answer : output (leads (opening ∷ comes (post (codes "Expect: 100-continue\r\nContent-Length: 2") ++ codes "ok") ∷ on_run ∷ reads 10 ∷ returns ∷ []))
    ≡ continue ++ empty
unfolding entries_on_literals
before_the_answer = refl

-- none is written where no rule serves the path
not_for_a_404 : take 13 (output (trace_by (standard 1) [] [] (opening ∷ comes (post (codes "Expect: 100-continue\r\nContent-Length: 2")) ∷ [])))
    ≡ codes "HTTP/1.1 404 "
unfolding entries_on_literals
not_for_a_404 = refl
