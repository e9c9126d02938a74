-- What the clock does to a connection, at each bound and one millisecond before, and in which order. Written down by
-- hand.
use Rattle.std.proofs.Common.{◌≡◌, ℕ, true, false, List, [], ◌∷◌, ◌++◌, Some, None, codes, refl}
use Rattle.std.specs.Prelude.{map}
use Rattle.std.specs.Fmt.{digits}
use Rattle.cy_event.specs.declared.framing.Framing.{Framing}
use Rattle.cy_event.specs.declared.framing.Framing.TheVariants as framing
use Rattle.cy_event.specs.declared.limits.Limits.{Limits}
use Rattle.cy_event.specs.declared.steps.Call.{Call}
use Rattle.cy_event.specs.declared.steps.Call.TheVariants as call
use Rattle.cy_event.specs.declared.steps.CloseCause.TheVariants as cause
use Rattle.cy_event.specs.declared.steps.Job.TheVariants as job
use Rattle.cy_event.specs.Answers.{head_text}
use Rattle.cy_event.specs.Bodies.{bodies_on_literals}
use Rattle.cy_event.specs.Dates.{count_off, date_at}
use Rattle.cy_event.specs.Limits.{standard}
use Rattle.cy_model.specs.Folds.{closing_since, idle_since}
use Rattle.cy_model.specs.Marks.{Mark, Trace, began, broken, called, came, caused, input_side, opened, output_side, over}
use Rattle.cy_model.specs.Marks.{parked, put, refused, sent, started, timeout_set}
use Rattle.cy_model.specs.Settling.{Move}
use Rattle.cy_model.specs.Ticks.{has_passed, is_reached, tick_move}

-- connections wait 100 milliseconds for their peers, asynchronous processing takes 300
abbrev short : Limits
short = record (standard 1) { connection_timeout = 100; async_timeout = 300 }

-- what ticks at these moments do
abbrev ticks : Trace → List ℕ → List Move
ticks T moments = map (λ t. tick_move short t T) moments

-- ---- comparisons

passed_at_the_sum : map (has_passed 100 7) (7 ∷ 106 ∷ 107 ∷ 108 ∷ []) ≡ false ∷ false ∷ true ∷ true ∷ []
passed_at_the_sum = refl

reached_at_the_deadline : map (is_reached (Some 50)) (49 ∷ 50 ∷ 51 ∷ []) ≡ false ∷ true ∷ true ∷ []
reached_at_the_deadline = refl

no_deadline_is_reached : map (is_reached None) (0 ∷ 253402300799999 ∷ []) ≡ false ∷ false ∷ []
no_deadline_is_reached = refl

-- ---- traces

abbrev begin : Framing → Mark
begin f = began (record {
  place = 0;
  size = 27;
  head = record { method = codes "GET"; target = codes "/"; minor = 1; fields = [] };
  framing = f;
  max_trailer = 8192;
  async_timeout = 300;
  part = 0;
  can_async = true;
  keep = true;
  go_on = false;
})

abbrev own : Call → Mark
own k = called k None

abbrev admitted : Trace
admitted = (7, opened) ∷ []

abbrev get : List ℕ
get = codes "GET / HTTP/1.1\r\nHost: a\r\n\r\n"

-- a request at 10, whose service runs from 20 on
abbrev served : Framing → Trace
served f = (20, own call.Run) ∷ (20, started (job.Service 0)) ∷ (10, begin f) ∷ (10, came get) ∷ admitted

abbrev starting : Framing → Trace
starting f = (20, own call.Start) ∷ served f

-- the component returns at 30
abbrev waiting : List (ℕ × Mark) → Trace
waiting marks = (30, own call.Return) ∷ marks ++ starting framing.None

abbrev times_out : Move
times_out = Some (own call.Timeout ∷ [])

abbrev awaits_no_longer : List Mark → Move
awaits_no_longer marks = Some (caused cause.AwaitTimeout ∷ broken ∷ marks)

abbrev idles_out : Move
idles_out = Some (caused cause.IdleTimeout ∷ broken ∷ [])

abbrev breaks : Move
breaks = Some (broken ∷ [])

abbrev rests : Move
rests = None

-- ---- asynchronous processing that takes too long

default_timeout : ticks (waiting []) (329 ∷ 330 ∷ 331 ∷ []) ≡ rests ∷ times_out ∷ times_out ∷ []
unfolding bodies_on_literals
default_timeout = refl

timeout_that_was_set : ticks (waiting ((25, timeout_set 50) ∷ [])) (79 ∷ 80 ∷ []) ≡ rests ∷ times_out ∷ []
unfolding bodies_on_literals
timeout_that_was_set = refl

timeout_of_0 : ticks (waiting ((25, timeout_set 0) ∷ [])) (30 ∷ 1000000 ∷ []) ≡ rests ∷ rests ∷ []
unfolding bodies_on_literals
timeout_of_0 = refl

-- only in the state of waiting: not before the return, and not in a read or write callback
no_timeout_while_starting : ticks (starting framing.None) (1000000 ∷ []) ≡ rests ∷ []
unfolding bodies_on_literals
no_timeout_while_starting = refl

no_timeout_in_a_callback : ticks ((40, own call.Run) ∷ waiting []) (1000000 ∷ []) ≡ rests ∷ []
unfolding bodies_on_literals
no_timeout_in_a_callback = refl

no_second_timeout : ticks ((330, own call.Timeout) ∷ waiting []) (1000000 ∷ []) ≡ rests ∷ []
unfolding bodies_on_literals
no_second_timeout = refl

-- ---- a callback that waits too long for its client

-- since 50, for content that doesn't come
waits_for_content : ticks ((50, parked input_side) ∷ served (framing.Length 3)) (149 ∷ 150 ∷ [])
    ≡ rests ∷ awaits_no_longer [] ∷ []
unfolding bodies_on_literals
waits_for_content = refl

-- a request that starts asynchronous processing hears of it
waits_while_starting : ticks ((50, parked input_side) ∷ starting (framing.Length 3)) (149 ∷ 150 ∷ [])
    ≡ rests ∷ awaits_no_longer (own call.Fault ∷ []) ∷ []
unfolding bodies_on_literals
waits_while_starting = refl

-- its wait is over: content came, the body is whole, there is room for output, or there is a cause
abbrev parked_with_content : Trace
parked_with_content = (60, came (codes "a")) ∷ (50, parked input_side) ∷ served (framing.Length 3)

wait_is_over_by_content : ticks parked_with_content (1000 ∷ []) ≡ rests ∷ []
unfolding bodies_on_literals
wait_is_over_by_content = refl

wait_is_over_without_a_body : ticks ((50, parked input_side) ∷ served framing.None) (1000 ∷ []) ≡ rests ∷ []
unfolding bodies_on_literals
wait_is_over_without_a_body = refl

wait_is_over_with_room : ticks ((50, parked output_side) ∷ served framing.None) (1000 ∷ []) ≡ rests ∷ []
unfolding bodies_on_literals
wait_is_over_with_room = refl

abbrev parked_with_a_cause : Trace
parked_with_a_cause = (60, caused cause.InputEnd) ∷ (50, parked input_side) ∷ served (framing.Length 3)

wait_is_over_with_a_cause : ticks parked_with_a_cause (1000 ∷ []) ≡ rests ∷ []
unfolding bodies_on_literals
wait_is_over_with_a_cause = refl

-- a callback that runs waits for nobody
running_callback : ticks (served (framing.Length 3)) (1000 ∷ []) ≡ rests ∷ []
unfolding bodies_on_literals
running_callback = refl

-- ---- a connection on which nothing comes for too long

idle_since_admission : ticks admitted (106 ∷ 107 ∷ []) ≡ rests ∷ idles_out ∷ []
unfolding bodies_on_literals
idle_since_admission = refl

idle_since_bytes : ticks ((50, came (codes "G")) ∷ admitted) (149 ∷ 150 ∷ []) ≡ rests ∷ idles_out ∷ []
unfolding bodies_on_literals
idle_since_bytes = refl

-- no byte is none
idle_in_spite_of_nothing : ticks ((50, came []) ∷ admitted) (106 ∷ 107 ∷ []) ≡ rests ∷ idles_out ∷ []
unfolding bodies_on_literals
idle_in_spite_of_nothing = refl

idle_since_the_end : ticks ((60, over) ∷ served framing.None) (159 ∷ 160 ∷ []) ≡ rests ∷ idles_out ∷ []
unfolding bodies_on_literals
idle_since_the_end = refl

-- what the client takes is no sign of life
idle_in_spite_of_taking : ticks ((90, sent 5) ∷ (60, over) ∷ served framing.None) (159 ∷ 160 ∷ [])
    ≡ rests ∷ idles_out ∷ []
unfolding bodies_on_literals
idle_in_spite_of_taking = refl

-- in an open request none is idle
open_is_not_idle : ticks ((10, begin framing.None) ∷ (10, came get) ∷ admitted) (1000000 ∷ []) ≡ rests ∷ []
unfolding bodies_on_literals
open_is_not_idle = refl

abbrev done : Trace
done = (60, over) ∷ served framing.None

latest_of_three : map idle_since (admitted ∷ served framing.None ∷ done ∷ [])
    ≡ 7 ∷ 10 ∷ 60 ∷ []
latest_of_three = refl

-- ---- a connection that closes, and whose client doesn't take the last bytes

abbrev refusing : Trace
refusing = (50, caused cause.Refused) ∷ (50, refused 400 false) ∷ (50, came (codes "x")) ∷ admitted

closes_since_its_cause : ticks refusing (149 ∷ 150 ∷ []) ≡ rests ∷ breaks ∷ []
unfolding bodies_on_literals head_text date_at count_off digits
closes_since_its_cause = refl

-- a later cause changes nothing
closes_since_the_first : ticks ((90, caused cause.InputEnd) ∷ refusing) (149 ∷ 150 ∷ []) ≡ rests ∷ breaks ∷ []
unfolding bodies_on_literals head_text date_at count_off digits
closes_since_the_first = refl

-- the cause came inside a request that ended later
abbrev late : Trace
late = (80, over) ∷ (70, put (codes "a")) ∷ (50, caused cause.Shut) ∷ served framing.None

closes_since_the_end : ticks late (179 ∷ 180 ∷ []) ≡ rests ∷ breaks ∷ []
unfolding bodies_on_literals head_text date_at count_off digits
closes_since_the_end = refl

abbrev caused_twice : Trace
caused_twice = (90, caused cause.InputEnd) ∷ refusing

closing_marks_since : map closing_since (refusing ∷ late ∷ caused_twice ∷ []) ≡ 50 ∷ 80 ∷ 50 ∷ []
closing_marks_since = refl

-- it is gone once all is taken, or dropped
gone_is_left : ticks ((60, sent 129) ∷ refusing) (1000000 ∷ []) ≡ rests ∷ []
unfolding bodies_on_literals head_text date_at count_off digits
gone_is_left = refl

all_but_one_byte : ticks ((60, sent 128) ∷ refusing) (149 ∷ 150 ∷ []) ≡ rests ∷ breaks ∷ []
unfolding bodies_on_literals head_text date_at count_off digits
all_but_one_byte = refl

broken_is_left : ticks ((150, broken) ∷ refusing) (1000000 ∷ []) ≡ rests ∷ []
unfolding bodies_on_literals head_text date_at count_off digits
broken_is_left = refl

-- ---- the order: a deadline before a wait that takes too long

abbrev parked_past_a_deadline : Trace
parked_past_a_deadline = (50, parked input_side) ∷ (40, own call.Return) ∷ starting (framing.Length 3)

deadline_before_wait : ticks parked_past_a_deadline (149 ∷ 150 ∷ 339 ∷ 340 ∷ [])
    ≡ rests ∷ awaits_no_longer (own call.Fault ∷ []) ∷ awaits_no_longer (own call.Fault ∷ []) ∷ times_out ∷ []
unfolding bodies_on_literals
deadline_before_wait = refl
