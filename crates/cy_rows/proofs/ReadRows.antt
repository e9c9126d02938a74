-- What a read of content gives, by what waits and whether the body is whole, and where no read is answered at all; and
-- how much room each read makes. Written down by hand.
use Rattle.std.proofs.Common.{◌≡◌, ℕ, true, false, List, [], ◌∷◌, Some, None, codes, refl, replicate, arith}
use Rattle.std.specs.Prelude.{⊤, map}
use Rattle.std.specs.Fmt.{digits}
use Rattle.cy_event.specs.declared.framing.Framing.{Framing}
use Rattle.cy_event.specs.declared.framing.Framing.TheVariants as framing
use Rattle.cy_event.specs.declared.steps.Act.TheVariants as act
use Rattle.cy_event.specs.declared.steps.Call.TheVariants as call
use Rattle.cy_event.specs.declared.steps.CloseCause.TheVariants as cause
use Rattle.cy_event.specs.declared.steps.Job.TheVariants as job
use Rattle.cy_event.specs.declared.steps.Reply.{Reply}
use Rattle.cy_event.specs.declared.steps.Reply.TheVariants as reply
use Rattle.cy_event.specs.Answers.{head_text}
use Rattle.cy_event.specs.Bodies.{bodies_on_literals}
use Rattle.cy_event.specs.Dates.{count_off, date_at}
use Rattle.cy_event.specs.Framings.{framings_on_literals}
use Rattle.cy_event.specs.Heads.{heads_on_literals}
use Rattle.cy_event.specs.Limits.{standard}
use Rattle.cy_event.specs.Targets.{targets_on_literals}
use Rattle.cy_map.specs.declared.rule.Rule.{Rule}
use Rattle.cy_model.specs.Entries.{after, on_act, reply_to}
use Rattle.cy_model.specs.Inputs.{consumed, room, waiting}
use Rattle.cy_model.specs.Marks.{Mark, Trace, back, began, broken, called, came, caused, end_given, ended, given}
use Rattle.cy_model.specs.Marks.{input_side, opened, over, parked, read_listener_set, started}
use Rattle.cy_model.specs.Reads.{Reading, content_read, end_read, nothing_read, reading_by, reading_marks, reading_in}
use Rattle.cy_model.specs.Reads.{reading_reply}
use Rattle.cy_model.specs.Replies.{Replied, plain}
use Rattle.cy_model.specs.Settling.{settled, with_marks}
use Rattle.cy_event.specs.declared.steps.TheConstants.{GREATEST_READ}
use Rattle.cy_model.specs.Steps.{IsWithinBytes}
use Rattle.cy_model.specs.Verdicts.{verdict_of}

-- what these rows unfold
unfoldable answers_on_literals : ⊤
unfolding head_text date_at count_off digits
answers_on_literals = tt

unfoldable reading_on_literals : ⊤
unfolding bodies_on_literals framings_on_literals targets_on_literals heads_on_literals
reading_on_literals = tt

unfoldable reads_on_literals : ⊤
unfolding after reply_to settled verdict_of reading_on_literals answers_on_literals
reads_on_literals = tt

-- ---- as much as was asked for, of what waits

abbrev five : List ℕ
five = codes "abcde"

as_much_as_asked : map (λ n. reading_by n five false) (1 ∷ 4 ∷ 5 ∷ 6 ∷ 65536 ∷ [])
    ≡ map content_read (codes "a" ∷ codes "abcd" ∷ five ∷ five ∷ five ∷ [])
as_much_as_asked = refl

-- whether more may come or not
whole_or_not : map (λ is_whole. reading_by 5 five is_whole) (true ∷ false ∷ []) ≡ content_read five ∷ content_read five ∷ []
whole_or_not = refl

-- none was asked for, and some waits
none_asked : reading_by 0 five true ≡ content_read []
none_asked = refl

-- none waits: the end of a whole body, and nothing of one that goes on, also where none was asked for
none_waits : map (λ n. reading_by n [] true) (0 ∷ 1 ∷ 65536 ∷ []) ≡ end_read ∷ end_read ∷ end_read ∷ []
none_waits = refl

none_came : map (λ n. reading_by n [] false) (0 ∷ 1 ∷ 65536 ∷ []) ≡ nothing_read ∷ nothing_read ∷ nothing_read ∷ []
none_came = refl

marks_of_each : map reading_marks (content_read five ∷ content_read [] ∷ end_read ∷ nothing_read ∷ [])
    ≡ Some (given 5 ∷ []) ∷ Some (given 0 ∷ []) ∷ Some (end_given ∷ []) ∷ None ∷ []
marks_of_each = refl

abbrev got : List ℕ → ℕ → Replied
got content n = record { reply = reply.Got n; got = content }

replies_of_each : map reading_reply (content_read five ∷ content_read [] ∷ end_read ∷ nothing_read ∷ [])
    ≡ got five 5 ∷ got [] 0 ∷ plain reply.GotEnd ∷ plain reply.Again ∷ []
replies_of_each = refl

-- ---- what waits, by the framing and the bytes behind the head

abbrev rules : List Rule
rules = record { pattern = codes "/"; part = 0; can_async = true } ∷ []

abbrev head_bytes : List ℕ
head_bytes = codes "POST / HTTP/1.1\r\nHost: a\r\nTransfer-Encoding: chunked\r\n\r\n"

abbrev begin : Framing → Mark
begin f = began (record {
  place = 0;
  size = 56;
  head = record { method = codes "POST"; target = codes "/"; minor = 1; fields = [] };
  framing = f;
  max_trailer = 8192;
  async_timeout = 30000;
  part = 0;
  can_async = true;
  keep = true;
  go_on = false;
})

abbrev then : Trace → List Mark → Trace
then T marks = with_marks 0 marks T

abbrev begun : Framing → List ℕ → Trace
begun f bytes = then [] (opened ∷ came head_bytes ∷ begin f ∷ came bytes ∷ [])

abbrev serving : Framing → List ℕ → Trace
serving f bytes = then (begun f bytes) (started (job.Service 0) ∷ called call.Run None ∷ [])

-- a read of ten bytes, behind so many that were given
abbrev read_behind : Framing → List ℕ → ℕ → Reading
read_behind f bytes n = reading_in 10 (then (serving f bytes) (given n ∷ []))

a_part_of_a_length : map (read_behind (framing.Length 5) (codes "abc")) (0 ∷ 1 ∷ 3 ∷ [])
    ≡ content_read (codes "abc") ∷ content_read (codes "bc") ∷ nothing_read ∷ []
unfolding bodies_on_literals
a_part_of_a_length = refl

all_of_a_length : map (read_behind (framing.Length 5) five) (0 ∷ 4 ∷ 5 ∷ [])
    ≡ content_read five ∷ content_read (codes "e") ∷ end_read ∷ []
unfolding bodies_on_literals
all_of_a_length = refl

-- what stands behind the body is none of it
behind_a_length : map (read_behind (framing.Length 5) (codes "abcdeGET")) (0 ∷ 5 ∷ []) ≡ content_read five ∷ end_read ∷ []
unfolding bodies_on_literals
behind_a_length = refl

no_body_at_all : map (λ f. read_behind f (codes "GET") 0) (framing.None ∷ framing.Length 0 ∷ []) ≡ end_read ∷ end_read ∷ []
unfolding bodies_on_literals
no_body_at_all = refl

-- of two chunks the content is one
across_chunks : map (read_behind framing.Chunked (codes "2\r\nab\r\n1\r\nc")) (0 ∷ 1 ∷ 2 ∷ 3 ∷ [])
    ≡ content_read (codes "abc") ∷ content_read (codes "bc") ∷ content_read (codes "c") ∷ nothing_read ∷ []
unfolding bodies_on_literals
across_chunks = refl

-- the end is told behind the last byte of the trailers, and no earlier
end_of_chunks : map (λ bytes. read_behind framing.Chunked bytes 1)
    (codes "1\r\na" ∷ codes "1\r\na\r\n0" ∷ codes "1\r\na\r\n0\r\nT: v\r\n\r" ∷ codes "1\r\na\r\n0\r\nT: v\r\n\r\n" ∷ [])
    ≡ nothing_read ∷ nothing_read ∷ nothing_read ∷ end_read ∷ []
unfolding bodies_on_literals
end_of_chunks = refl

-- once it was told it is told again
end_again : reading_in 10 (then (serving framing.Chunked (codes "0\r\n\r\n")) (end_given ∷ [])) ≡ end_read
unfolding bodies_on_literals
end_again = refl

-- nothing waits of a bad body, also of what came before the bad byte
nothing_of_a_bad : waiting (serving framing.Chunked (codes "3\r\nabcX")) ≡ []
unfolding bodies_on_literals
nothing_of_a_bad = refl

before_it_was_bad : waiting (serving framing.Chunked (codes "3\r\nabc")) ≡ codes "abc"
unfolding bodies_on_literals
before_it_was_bad = refl

-- ---- where no read is answered: NotActive stands before Closed, Closed before what the body says

abbrev answer : Trace → Reply
answer T = (reply_to (standard 1) rules 0 T (on_act (act.Read 10) [])).reply

abbrev some : Trace
some = serving (framing.Length 5) (codes "abc")

answered : map answer (some ∷ then some (given 3 ∷ []) ∷ serving (framing.Length 5) five ∷ serving framing.None [] ∷ [])
    ≡ reply.Got 3 ∷ reply.Again ∷ reply.Got 5 ∷ reply.GotEnd ∷ []
unfolding reads_on_literals
answered = refl

none_runs : map answer
    ([] ∷ then [] (opened ∷ []) ∷ begun framing.None [] ∷ then some (parked input_side ∷ [])
    ∷ then some (back ∷ called call.Return None ∷ over ∷ []) ∷ [])
    ≡ replicate 5 reply.NotActive
unfolding reads_on_literals
none_runs = refl

none_runs_before_a_cause : map answer
    (then (begun framing.None []) (caused cause.InputEnd ∷ []) ∷ then some (parked input_side ∷ caused cause.BadBody ∷ [])
    ∷ [])
    ≡ reply.NotActive ∷ reply.NotActive ∷ []
unfolding reads_on_literals
none_runs_before_a_cause = refl

with_a_cause : map answer
    (then some (caused cause.BadBody ∷ []) ∷ then some (given 3 ∷ caused cause.InputEnd ∷ [])
    ∷ then (serving framing.None []) (caused cause.Shut ∷ broken ∷ []) ∷ [])
    ≡ replicate 3 reply.Closed
unfolding reads_on_literals
with_a_cause = refl

-- the input has ended behind a whole body, and what came is read
with_an_end : map answer
    (then (serving (framing.Length 5) five) (ended ∷ []) ∷ then (serving (framing.Length 5) five) (ended ∷ given 5 ∷ [])
    ∷ [])
    ≡ reply.Got 5 ∷ reply.GotEnd ∷ []
unfolding reads_on_literals
with_an_end = refl

-- one that is gone is closed to all
gone_is_closed : answer (then [] (opened ∷ caused cause.InputEnd ∷ [])) ≡ reply.Closed
unfolding reads_on_literals
gone_is_closed = refl

-- a read callback reads as the service does
in_a_listener : answer
    (then some
    (called call.Start None ∷ read_listener_set ∷ back ∷ called call.Return None ∷ started job.Readable ∷ called call.Run None
    ∷ []))
    ≡ reply.Got 3
unfolding reads_on_literals
in_a_listener = refl

-- ---- what it leaves

abbrev read : Trace → ℕ → Trace
read T n = after (standard 1) rules 0 T (on_act (act.Read n) [])

leaves_its_mark : read some 2 ≡ then some (given 2 ∷ [])
unfolding reads_on_literals
leaves_its_mark = refl

leaves_the_end : read (serving framing.None []) 2 ≡ then (serving framing.None []) (end_given ∷ [])
unfolding reads_on_literals
leaves_the_end = refl

leaves_nothing : read (then some (given 3 ∷ [])) 2 ≡ then some (given 3 ∷ [])
unfolding reads_on_literals
leaves_nothing = refl

closed_leaves_nothing : read (then some (caused cause.InputEnd ∷ [])) 2 ≡ then some (caused cause.InputEnd ∷ [])
unfolding reads_on_literals
closed_leaves_nothing = refl

-- ---- the room that it makes: as many bytes as hold what was given, and all of the body behind its end

abbrev rooms : Trace → List ℕ → List ℕ
rooms T counts = map (λ n. room (then T (given n ∷ []))) counts

-- of 16,384 bytes that may wait the five of the body take five
room_of_a_length : rooms (serving (framing.Length 9) five) (0 ∷ 1 ∷ 5 ∷ []) ≡ 16379 ∷ 16380 ∷ 16384 ∷ []
unfolding bodies_on_literals
room_of_a_length = refl

-- three bytes stand before the first content, five between the second and the third
room_of_chunks : rooms (serving framing.Chunked (codes "2\r\nab\r\n1\r\nc\r\n0\r\n\r\n")) (0 ∷ 1 ∷ 2 ∷ 3 ∷ [])
    ≡ 16366 ∷ 16370 ∷ 16371 ∷ 16377 ∷ []
unfolding bodies_on_literals
room_of_chunks = refl

room_behind_the_end : room (then (serving framing.Chunked (codes "1\r\nc\r\n0\r\n\r\n")) (given 1 ∷ end_given ∷ [])) ≡ 16384
unfolding bodies_on_literals
room_behind_the_end = refl

-- the end of a body is told before its request is over: the next head waits there
next_head_waits : consumed (then (serving framing.Chunked (codes "0\r\n\r\nGET")) (end_given ∷ [])) ≡ 61
unfolding bodies_on_literals
next_head_waits = refl

-- ---- as much as may be asked for at once

at_most : GREATEST_READ ≡ 65536
at_most = refl

asks_for_all : IsWithinBytes (act.Read 65536) []
asks_for_all = omega arith

asks_for_more : IsWithinBytes (act.Read 65537) [] → ⊥
asks_for_more within = omega (arith, within)
