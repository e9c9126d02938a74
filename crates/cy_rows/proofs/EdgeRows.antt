-- Edges of bodies: two on one connection, the byte that makes one bad, trailers past their limit, the input's end behind
-- a whole one, output that waits for the socket, and more bytes than there is room for. Written down by hand.
use Rattle.std.proofs.Common.{◌≡◌, ℕ, true, false, List, [], ◌∷◌, ◌++◌, Some, None, codes, length, refl, replicate, take}
use Rattle.std.specs.Prelude.{⊤, map}
use Rattle.std.specs.Fmt.{digits}
use Rattle.std.specs.Str.{is_utf8, chars}
use lib.Utf8.{encode}
use Rattle.cy_bytes.specs.Quoting.{quoted}
use Rattle.cy_event.specs.declared.framing.Framing.{Framing}
use Rattle.cy_event.specs.declared.framing.Framing.TheVariants as framing
use Rattle.cy_event.specs.declared.limits.Limits.{Limits}
use Rattle.cy_event.specs.declared.steps.Act.TheVariants as act
use Rattle.cy_event.specs.declared.steps.Call.{Call}
use Rattle.cy_event.specs.declared.steps.Call.TheVariants as call
use Rattle.cy_event.specs.declared.steps.CloseCause.TheVariants as cause
use Rattle.cy_event.specs.declared.steps.Event.TheVariants as event
use Rattle.cy_event.specs.declared.steps.Job.TheVariants as job
use Rattle.cy_event.specs.declared.steps.Reply.TheVariants as reply
use Rattle.cy_event.specs.Answers.{head_text}
use Rattle.cy_event.specs.Bodies.{bodies_on_literals}
use Rattle.cy_event.specs.Dates.{count_off, date_at}
use Rattle.cy_event.specs.Framings.{framings_on_literals}
use Rattle.cy_event.specs.Heads.{heads_on_literals}
use Rattle.cy_event.specs.Limits.{standard}
use Rattle.cy_event.specs.Targets.{targets_on_literals}
use Rattle.cy_map.specs.declared.rule.Rule.{Rule}
use Rattle.cy_model.specs.Entries.{Entry, after, on_act, on_event, on_run, opening, reply_to}
use Rattle.cy_model.specs.Folds.{cause_of, charts}
use Rattle.cy_model.specs.Inputs.{room, waiting}
use Rattle.cy_model.specs.Marks.{Mark, Trace, back, began, called, came, caused, ended, opened, over, put, started}
use Rattle.cy_model.specs.Replies.{Replied, plain}
use Rattle.cy_model.specs.Reports.{reply_text}
use Rattle.cy_model.specs.Settling.{body_move, input_move, settled, with_marks}
use Rattle.cy_model.specs.Verdicts.{verdict_of}

-- what these rows unfold
unfoldable answers_on_literals : ⊤
unfolding head_text date_at count_off digits
answers_on_literals = tt

unfoldable reading_on_literals : ⊤
unfolding bodies_on_literals framings_on_literals targets_on_literals heads_on_literals
reading_on_literals = tt

unfoldable entries_on_literals : ⊤
unfolding after reply_to settled verdict_of reading_on_literals answers_on_literals
entries_on_literals = tt

-- ---- entries one after another, all at the moment 0

abbrev rules : List Rule
rules = record { pattern = codes "/"; part = 0; can_async = true } ∷ []

-- what each is answered
abbrev answers_by : Limits → List Rule → Trace → List Entry → List Replied
answers_by limits served T [] = []
answers_by limits served T (e ∷ entries) =
    reply_to limits served 0 T e ∷ answers_by limits served (after limits served 0 T e) entries

-- the trace that they lead to
abbrev trace_by : Limits → List Rule → Trace → List Entry → Trace
trace_by limits served T [] = T
trace_by limits served T (e ∷ entries) = trace_by limits served (after limits served 0 T e) entries

abbrev answers : Trace → List Entry → List Replied
answers T entries = answers_by (standard 1) rules T entries

abbrev leads : List Entry → Trace
leads entries = trace_by (standard 1) rules [] entries

abbrev comes : List ℕ → Entry
comes bytes = on_event event.In bytes

abbrev ends : Entry
ends = on_event event.End []

abbrev reads : ℕ → Entry
reads n = on_act (act.Read n) []

abbrev returns : Entry
returns = on_act act.Return []

abbrev served : List Call
served = call.Run ∷ call.Return ∷ []

abbrev begun : Replied
begun = plain (reply.Begun (job.Service 0))

abbrev got : List ℕ → Replied
got content = record { reply = reply.Got (length content); got = content }

-- where these are the limits
abbrev leads_by : Limits → List Entry → Trace
leads_by limits entries = trace_by limits rules [] entries

-- ---- texts

abbrev post : List ℕ → List ℕ
post field = codes "POST / HTTP/1.1\r\nHost: a\r\n" ++ field ++ codes "\r\n\r\n"

abbrev in_chunks : List ℕ
in_chunks = post (codes "Transfer-Encoding: chunked")

abbrev of_three : List ℕ
of_three = post (codes "Content-Length: 3")

abbrev of_none : List ℕ
of_none = post (codes "Content-Length: 0")

-- ---- two requests with bodies in one piece: the first of 12 bytes, and behind it a head of 47 bytes and a body of 3

abbrev both : List Entry
both = opening ∷ comes (in_chunks ++ codes "2\r\nab\r\n0\r\n\r\n" ++ of_three ++ codes "xyz") ∷ []

abbrev first_is_read : List Entry
first_is_read = on_run ∷ reads 10 ∷ reads 10 ∷ []

abbrev second_is_begun : List Entry
second_is_begun = first_is_read ++ returns ∷ on_run ∷ []

what_both_give : answers (leads both) (second_is_begun ++ reads 2 ∷ reads 2 ∷ reads 2 ∷ [])
    ≡ begun ∷ got (codes "ab") ∷ plain reply.GotEnd ∷ plain reply.Done
    ∷ begun ∷ got (codes "xy") ∷ got (codes "z") ∷ plain reply.GotEnd ∷ []
unfolding entries_on_literals
what_both_give = refl

-- 62 bytes wait behind the first head, 50 behind the first body, 3 and then 1 behind the second head
rooms_of_both : map (λ entries. room (leads (both ++ entries)))
    ([] ∷ first_is_read ∷ second_is_begun ∷ (second_is_begun ++ reads 2 ∷ []) ∷ [])
    ≡ 16322 ∷ 16334 ∷ 16381 ∷ 16383 ∷ []
unfolding entries_on_literals
rooms_of_both = refl

-- each may leave as many bytes unread as may be passed over
each_by_itself : map (λ most. charts (leads_by (record (standard 1) { max_swallow = most })
    (opening ∷ comes (of_three ++ codes "abc" ++ of_three ++ codes "xyz" ++ of_none) ∷ on_run ∷ returns ∷ on_run ∷ returns ∷ [])))
    (2 ∷ 3 ∷ [])
    ≡ (served ∷ []) ∷ (served ∷ served ∷ [] ∷ []) ∷ []
unfolding entries_on_literals
each_by_itself = refl

-- ---- the byte that makes a body bad is none of it, and waits with those behind it

bad_is_not_used : map (λ entries. room (leads (opening ∷ comes (in_chunks ++ codes "3\r\nabcXY") ∷ on_run ∷ entries)))
    ([] ∷ (returns ∷ []) ∷ [])
    ≡ 16376 ∷ 16382 ∷ []
unfolding entries_on_literals
bad_is_not_used = refl

-- ---- trailers of 8 bytes, of which so many may come

abbrev with_trailers : ℕ → Trace
with_trailers most = leads_by (record (standard 1) { max_trailer = most })
    (opening ∷ comes (in_chunks ++ codes "1\r\na\r\n0\r\nT:vv\r\n\r\n") ∷ on_run ∷ [])

trailers_of_an_open : map (λ most. cause_of (with_trailers most)) (7 ∷ 8 ∷ []) ≡ Some cause.BadBody ∷ None ∷ []
unfolding entries_on_literals
trailers_of_an_open = refl

too_large_gives_none : map (λ most. waiting (with_trailers most)) (7 ∷ 8 ∷ []) ≡ [] ∷ codes "a" ∷ []
unfolding entries_on_literals
too_large_gives_none = refl

-- ---- a body of the length 0 is whole before a byte of it could come

length_0_is_read : answers (leads (opening ∷ comes of_none ∷ [])) (on_run ∷ reads 1 ∷ returns ∷ comes of_none ∷ on_run ∷ [])
    ≡ begun ∷ plain reply.GotEnd ∷ plain reply.Done ∷ plain (reply.Taken 47) ∷ begun ∷ []
unfolding entries_on_literals
length_0_is_read = refl

-- ---- the input ends behind a whole body that nobody reads: where more of it is passed over than may be, that decides

limit_of_a_whole : map (λ most. cause_of (leads_by (record (standard 1) { max_swallow = most })
    (opening ∷ comes (of_three ++ codes "abc") ∷ ends ∷ on_run ∷ returns ∷ [])))
    (2 ∷ 3 ∷ [])
    ≡ Some cause.SwallowLimit ∷ Some cause.InputEnd ∷ []
unfolding entries_on_literals
limit_of_a_whole = refl

-- ---- what is wrong with a body is told however much waits for the socket

abbrev begin : Framing → Mark
begin f = began (record {
  place = 0;
  size = 56;
  head = record { method = codes "POST"; target = codes "/"; minor = 1; fields = [] };
  framing = f;
  max_trailer = 8192;
  async_timeout = 30000;
  part = 0;
  can_async = true;
  keep = true;
  go_on = false;
})

abbrev then : Trace → List Mark → Trace
then T marks = with_marks 0 marks T

abbrev service : Framing → Trace
service f = then [] (opened ∷ came in_chunks ∷ begin f ∷ started (job.Service 0) ∷ called call.Run None ∷ [])

-- 16,384 bytes of content are put, and behind their end a part of the body comes
abbrev much : List ℕ → Trace
much bytes = then (service (framing.Length 10))
    (put (replicate 16384 97) ∷ back ∷ called call.Return None ∷ over ∷ came bytes ∷ [])

limit_of_much : body_move (record (standard 1) { max_swallow = 2 }) (much (codes "abc")) ≡ Some (caused cause.SwallowLimit ∷ [])
unfolding bodies_on_literals
limit_of_much = refl

end_of_much : input_move (then (much (codes "abc")) (ended ∷ [])) ≡ Some (caused cause.InputEnd ∷ [])
unfolding bodies_on_literals
end_of_much = refl

-- ---- of a piece as many bytes come as there is room for

abbrev nearly_full : Trace
nearly_full = then (service (framing.Length 100000)) (came (replicate 16380 0) ∷ [])

as_there_is_room : take 1 (after (standard 1) rules 0 nearly_full (comes (codes "abcdefgh"))) ≡ (0, came (codes "abcd")) ∷ []
unfolding entries_on_literals
as_there_is_room = refl

-- ---- what was read stands in the report as texts of scripts do

reads_are_quoted : map (λ content. reply_text (reply.Got (length content)) content) ([] ∷ codes "abc" ∷ codes "a\r\n\"\\" ∷ [])
    ≡ codes "Got \"\"" ∷ codes "Got \"abc\"" ∷ codes "Got \"a\\r\\n\\\"\\\\\"" ∷ []
unfolding reply_text quoted is_utf8 digits chars encode
reads_are_quoted = refl
