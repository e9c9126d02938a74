-- What steps are answered, each reply before those behind it, and how many connections are counted. Written down by
-- hand.
use Rattle.std.proofs.Common.{◌≡◌, ℕ, true, false, List, [], ◌∷◌, None, codes, refl, replicate}
use Rattle.std.specs.Prelude.{⊤, map, reverse}
use Rattle.std.specs.Fmt.{digits}
use Rattle.cy_event.specs.declared.framing.Framing.TheVariants as framing
use Rattle.cy_event.specs.declared.limits.Limits.{Limits}
use Rattle.cy_event.specs.declared.steps.Act.TheVariants as act
use Rattle.cy_event.specs.declared.steps.Call.TheVariants as call
use Rattle.cy_event.specs.declared.steps.CloseCause.TheVariants as cause
use Rattle.cy_event.specs.declared.steps.Event.TheVariants as event
use Rattle.cy_event.specs.declared.steps.Job.TheVariants as job
use Rattle.cy_event.specs.declared.steps.Reply.{Reply}
use Rattle.cy_event.specs.declared.steps.Reply.TheVariants as reply
use Rattle.cy_event.specs.declared.steps.Step.{Step}
use Rattle.cy_event.specs.declared.steps.Step.TheVariants as step
use Rattle.cy_event.specs.Answers.{head_text}
use Rattle.cy_event.specs.Bodies.{bodies_on_literals}
use Rattle.cy_event.specs.Dates.{count_off, date_at}
use Rattle.cy_event.specs.Framings.{framings_on_literals}
use Rattle.cy_event.specs.Heads.{heads_on_literals}
use Rattle.cy_event.specs.Limits.{standard}
use Rattle.cy_event.specs.Targets.{targets_on_literals}
use Rattle.cy_map.specs.declared.rule.Rule.{Rule}
use Rattle.cy_model.specs.Connections.{connections, counted, moment, replies}
use Rattle.cy_model.specs.Entries.{after, on_act, on_event, on_run, reply_to, tick}
use Rattle.cy_model.specs.Marks.{Mark, Trace, back, began, broken, called, came, caused, ended, opened, over, put, refused}
use Rattle.cy_model.specs.Marks.{sent, started}
use Rattle.cy_model.specs.Settling.{settled, with_marks}
use Rattle.cy_model.specs.Verdicts.{verdict_of}

-- what these rows unfold
unfoldable answers_on_literals : ⊤
unfolding head_text date_at count_off digits
answers_on_literals = tt

unfoldable reading_on_literals : ⊤
unfolding bodies_on_literals framings_on_literals targets_on_literals heads_on_literals
reading_on_literals = tt

unfoldable replies_on_literals : ⊤
unfolding after reply_to settled verdict_of reading_on_literals answers_on_literals
replies_on_literals = tt

abbrev rules : List Rule
rules = record { pattern = codes "/"; part = 0; can_async = true } ∷ []

-- ---- one connection

abbrev then : Trace → List Mark → Trace
then T marks = with_marks 0 marks T

-- what each sort of step is answered: input, its end, output, a turn, a write, a return, and the clock
abbrev answers : Trace → List Reply
answers T =
    map (λ e. (reply_to (standard 1) rules 0 T e).reply)
    (on_event event.In (codes "x") ∷ on_event event.End [] ∷ on_event (event.Took 5) [] ∷ on_run
    ∷ on_act (act.Write 3) (codes "abc") ∷ on_act act.Return [] ∷ tick ∷ [])

abbrev get : List ℕ
get = codes "GET / HTTP/1.1\r\nHost: a\r\n\r\n"

abbrev admitted : Trace
admitted = then [] (opened ∷ [])

abbrev begun : Trace
begun =
    then admitted (came get ∷ began (record {
      place = 0;
      size = 27;
      head = record {
        method = codes "GET";
        target = codes "/";
        minor = 1;
        fields = record { name = codes "Host"; value = codes "a" } ∷ [];
      };
      framing = framing.None;
      max_trailer = 8192;
      async_timeout = 30000;
      part = 0;
      can_async = true;
      keep = true;
      go_on = false;
    }) ∷ [])

abbrev serving : Trace
serving = then begun (started (job.Service 0) ∷ called call.Run None ∷ [])

abbrev done : Trace
done = then serving (put (codes "ab") ∷ back ∷ called call.Return None ∷ over ∷ [])

of_an_admitted : answers admitted
    ≡ reply.Taken 1 ∷ reply.Done ∷ reply.Taken 0 ∷ reply.Idle ∷ reply.NotActive ∷ reply.NotActive ∷ reply.Done ∷ []
unfolding replies_on_literals
of_an_admitted = refl

of_a_begun : answers begun
    ≡ reply.Taken 1 ∷ reply.Done ∷ reply.Taken 0 ∷ reply.Begun (job.Service 0) ∷ reply.NotActive ∷ reply.NotActive
    ∷ reply.Done ∷ []
unfolding replies_on_literals
of_a_begun = refl

of_a_running : answers serving
    ≡ reply.Taken 1 ∷ reply.Done ∷ reply.Taken 0 ∷ reply.Idle ∷ reply.Taken 3 ∷ reply.Done ∷ reply.Done ∷ []
unfolding replies_on_literals
of_a_running = refl

-- an answer waits for the socket
of_a_done : answers done
    ≡ reply.Taken 1 ∷ reply.Done ∷ reply.Taken 5 ∷ reply.Idle ∷ reply.NotActive ∷ reply.NotActive ∷ reply.Done ∷ []
unfolding replies_on_literals
of_a_done = refl

-- the input has ended, and the callback runs on
of_an_ended : answers (then serving (ended ∷ []))
    ≡ reply.Closed ∷ reply.Closed ∷ reply.Taken 0 ∷ reply.Idle ∷ reply.Taken 3 ∷ reply.Done ∷ reply.Done ∷ []
unfolding replies_on_literals
of_an_ended = refl

-- with a cause the callback may only return; a broken connection tells nothing of its output
of_a_caused : answers (then serving (caused cause.Shut ∷ broken ∷ []))
    ≡ reply.Closed ∷ reply.Closed ∷ reply.Closed ∷ reply.Idle ∷ reply.Closed ∷ reply.Done ∷ reply.Done ∷ []
unfolding replies_on_literals
of_a_caused = refl

-- where none runs, that stands before the cause
of_a_caused_begun : answers (then begun (caused cause.Shut ∷ broken ∷ []))
    ≡ reply.Closed ∷ reply.Closed ∷ reply.Closed ∷ reply.Begun (job.Service 0) ∷ reply.NotActive ∷ reply.NotActive
    ∷ reply.Done ∷ []
unfolding replies_on_literals
of_a_caused_begun = refl

-- a refusal waits for the socket, and then the connection is gone
abbrev refusing : Trace
refusing = then admitted (came (codes "x") ∷ refused 400 false ∷ caused cause.Refused ∷ [])

of_a_refusing : answers refusing
    ≡ reply.Closed ∷ reply.Closed ∷ reply.Taken 5 ∷ reply.Idle ∷ reply.NotActive ∷ reply.NotActive ∷ reply.Done ∷ []
unfolding replies_on_literals
of_a_refusing = refl

of_a_gone : answers (then refusing (sent 129 ∷ []))
    ≡ reply.Closed ∷ reply.Closed ∷ reply.Closed ∷ reply.Closed ∷ reply.Closed ∷ reply.Closed ∷ reply.Done ∷ []
unfolding replies_on_literals
of_a_gone = refl

-- ---- as much as there is room for

taken_by_room : map (λ n. (reply_to (standard 1) rules 0 serving (on_event event.In (replicate n 0))).reply) (0
    ∷ 16384 ∷ 16385 ∷ [])
    ≡ reply.Taken 0 ∷ reply.Taken 16384 ∷ reply.Taken 16384 ∷ []
unfolding replies_on_literals
taken_by_room = refl

-- what waits behind the head of the open request takes room, and the head none
taken_behind_waiting : (reply_to (standard 1) rules 0 (then serving (came (replicate 16380 0)
    ∷ [])) (on_event event.In (codes "abcdef"))).reply
    ≡ reply.Taken 4
unfolding replies_on_literals
taken_behind_waiting = refl

no_byte_is_no_refusal : (reply_to (standard 1) rules 0 (then serving (put (replicate 8192 97)
    ∷ [])) (on_act (act.Write 0) [])).reply
    ≡ reply.Taken 0
unfolding replies_on_literals
no_byte_is_no_refusal = refl

-- ---- steps of several connections

abbrev told : Limits → List Step → List Reply
told limits steps = map (λ r. r.reply) (replies limits rules (reverse steps))

abbrev at_most_two : Limits
at_most_two = record (standard 1) { max_connections = 2 }

-- two are counted until one of them is gone; one that was turned away isn't known
abbrev admissions : List Step
admissions =
    step.Admit 1 ∷ step.Admit 2 ∷ step.Admit 3 ∷ step.On 3 event.In (codes "x") ∷ step.Run 3
    ∷ step.Act 3 act.Return []
    ∷ step.On 1 event.End [] ∷ step.Admit 4 ∷ step.Admit 5 ∷ step.On 1 event.In (codes "x") ∷ step.Run 1 ∷ []

admissions_are_told : told at_most_two admissions
    ≡ reply.Entered ∷ reply.Entered ∷ reply.Full 2 ∷ reply.NoConn ∷ reply.NoConn ∷ reply.NoConn ∷ reply.Done
    ∷ reply.Entered ∷ reply.Full 2 ∷ reply.Closed ∷ reply.Closed ∷ []
unfolding replies_on_literals
admissions_are_told = refl

two_are_counted : counted at_most_two rules (connections at_most_two rules (reverse admissions)) ≡ 2
unfolding replies_on_literals
two_are_counted = refl

-- a refused head counts until its answer is taken
abbrev refusals : List Step
refusals =
    step.Admit 7 ∷ step.On 7 event.In (codes "x\r\n\r\n") ∷ step.Admit 8 ∷ step.On 7 (event.Took 128) []
    ∷ step.Admit 9
    ∷ step.On 7 (event.Took 128) [] ∷ step.Admit 10 ∷ []

refusals_are_told : told (record (standard 1) { max_connections = 1 }) refusals
    ≡ reply.Entered ∷ reply.Taken 5 ∷ reply.Full 1 ∷ reply.Taken 128 ∷ reply.Full 1 ∷ reply.Taken 1 ∷ reply.Entered
    ∷ []
unfolding replies_on_literals
refusals_are_told = refl

-- steps of one connection are answered as if there were no other
two_side_by_side : told (standard 1)
    (step.Admit 1 ∷ step.Admit 2 ∷ step.On 1 event.In get ∷ step.On 2 event.In (codes "G") ∷ step.Run 2 ∷ step.Run 1
    ∷ step.Act 2 (act.Write 1) (codes "b") ∷ step.Act 1 (act.Write 1) (codes "a") ∷ step.Act 1 act.Return []
    ∷ step.At 5 ∷ step.Run 1 ∷ [])
    ≡ reply.Entered ∷ reply.Entered ∷ reply.Taken 27 ∷ reply.Taken 1 ∷ reply.Idle ∷ reply.Begun (job.Service 0)
    ∷ reply.NotActive ∷ reply.Taken 1 ∷ reply.Done ∷ reply.Done ∷ reply.Idle ∷ []
unfolding replies_on_literals
two_side_by_side = refl

-- the moment is that of the clock's last step
moments : map moment ([] ∷ (step.Run 1 ∷ []) ∷ (step.Run 1 ∷ step.At 5 ∷ [])
    ∷ (step.At 9 ∷ step.Run 1 ∷ step.At 5 ∷ []) ∷ [])
    ≡ 0 ∷ 0 ∷ 5 ∷ 9 ∷ []
moments = refl

-- a turn whose settling ends a request begins no callback, although the next head is taken up; the turn behind it does
abbrev completed : Trace
completed =
    then begun (started (job.Service 0) ∷ called call.Run None ∷ called call.Start None ∷ back ∷ called call.Return None
    ∷ called call.CompleteOther None ∷ came get ∷ [])

turn_that_ends : (reply_to (standard 1) rules 0 completed on_run).reply ≡ reply.Idle
unfolding replies_on_literals
turn_that_ends = refl

turn_behind_it : (reply_to (standard 1) rules 0 (after (standard 1) rules 0 completed on_run) on_run).reply
    ≡ reply.Begun (job.Service 0)
unfolding replies_on_literals
turn_behind_it = refl
