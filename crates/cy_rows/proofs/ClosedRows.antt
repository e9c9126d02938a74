-- What is closed by what, which cause stays, who hears of it, and how a request ends with it. Written down by hand.
use Rattle.std.proofs.Common.{◌≡◌, ℕ, Bool, true, false, List, [], ◌∷◌, ◌++◌, Option, Some, None, codes, refl}
use Rattle.std.specs.Prelude.{map, reverse}
use Rattle.std.specs.Fmt.{digits}
use Rattle.cy_event.specs.declared.framing.Framing.TheVariants as framing
use Rattle.cy_event.specs.declared.steps.Act.TheVariants as act
use Rattle.cy_event.specs.declared.steps.Call.{Call}
use Rattle.cy_event.specs.declared.steps.Call.TheVariants as call
use Rattle.cy_event.specs.declared.steps.CloseCause.{CloseCause}
use Rattle.cy_event.specs.declared.steps.CloseCause.TheVariants as cause
use Rattle.cy_event.specs.declared.steps.Event.{Event}
use Rattle.cy_event.specs.declared.steps.Event.TheVariants as event
use Rattle.cy_event.specs.declared.steps.Job.TheVariants as job
use Rattle.cy_event.specs.declared.steps.State.TheVariants as state
use Rattle.cy_event.specs.Answers.{head_text}
use Rattle.cy_event.specs.Dates.{count_off, date_at}
use Rattle.cy_model.specs.Endings.{cause_behind, closing_marks, end_marks, failure_marks, fault_marks, last_error_marks}
use Rattle.cy_model.specs.Entries.{is_closed_act, is_closed_by}
use Rattle.cy_model.specs.Folds.{cause_of, state_of}
use Rattle.cy_model.specs.Marks.{Mark, TakenUp, Trace, aborted, began, broken, called, caused, error_answer, flushed}
use Rattle.cy_model.specs.Marks.{length_set, opened, over, put, sent, started, status_set}
use Rattle.cy_model.specs.Outputs.{is_gone, is_gone_by}

-- ---- events: closed by a cause, by the end of the input, by being gone, by being broken

abbrev shut : Option CloseCause
shut = Some cause.Shut

-- where nothing holds; where one of the four does; where all do
abbrev closed_by : Event → List Bool
closed_by e =
    is_closed_by e None false false false ∷ is_closed_by e shut false false false
    ∷ is_closed_by e None true false false ∷ is_closed_by e None false true false
    ∷ is_closed_by e None false false true ∷ is_closed_by e shut true true true ∷ []

input_is_closed : closed_by event.In ≡ false ∷ true ∷ true ∷ false ∷ false ∷ true ∷ []
input_is_closed = refl

end_is_closed : closed_by event.End ≡ false ∷ true ∷ true ∷ false ∷ false ∷ true ∷ []
end_is_closed = refl

output_is_closed : closed_by (event.Took 5) ≡ false ∷ false ∷ false ∷ true ∷ true ∷ true ∷ []
output_is_closed = refl

-- each cause closes the input
abbrev all_causes : List CloseCause
all_causes =
    cause.LastAnswer ∷ cause.Refused ∷ cause.BadBody ∷ cause.SwallowLimit ∷ cause.ShortAnswer ∷ cause.FailedAnswer
    ∷ cause.IdleTimeout ∷ cause.AwaitTimeout ∷ cause.InputEnd ∷ cause.InFault ∷ cause.OutFault ∷ cause.Shut ∷ []

each_cause_closes_the_input : map (λ k. is_closed_by event.In (Some k) false false false) all_causes
    ≡ true ∷ true ∷ true ∷ true ∷ true ∷ true ∷ true ∷ true ∷ true ∷ true ∷ true ∷ true ∷ []
each_cause_closes_the_input = refl

-- ---- acts: a cause closes writing, and nothing closes the return

abbrev admitted : Trace
admitted = (0, opened) ∷ []

abbrev with_cause : CloseCause → Trace → Trace
with_cause k T = (0, caused k) ∷ T

writing_is_open : is_closed_act (act.Write 1) admitted ≡ false
writing_is_open = refl

each_cause_closes_writing : map (λ k. is_closed_act (act.Write 1) (with_cause k admitted)) all_causes
    ≡ true ∷ true ∷ true ∷ true ∷ true ∷ true ∷ true ∷ true ∷ true ∷ true ∷ true ∷ true ∷ []
each_cause_closes_writing = refl

returning_is_open : is_closed_act act.Return admitted ∷ is_closed_act act.Return (with_cause cause.Shut admitted) ∷ []
    ≡ false ∷ false ∷ []
returning_is_open = refl

-- ---- the first cause stays

no_cause : cause_of admitted ≡ None
no_cause = refl

first_cause : cause_of ((9, broken) ∷ (9, caused cause.InFault) ∷ (5, sent 1) ∷ with_cause cause.InputEnd admitted)
    ≡ Some cause.InputEnd
first_cause = refl

-- ---- which states hear of a fault

abbrev request : Bool → TakenUp
request keep = record {
  place = 0;
  size = 27;
  head = record { method = codes "GET"; target = codes "/"; minor = 1; fields = [] };
  framing = framing.None;
  max_trailer = 8192;
  async_timeout = 30000;
  part = 0;
  can_async = true;
  keep = keep;
  go_on = false;
}

-- an open request after these calls, the first first
abbrev after_calls : List Call → Trace
after_calls calls = reverse (map (λ k. (0, called k None)) calls) ++ (0, began (request true)) ∷ admitted

-- the calls that lead to each state
abbrev ways : List (List Call)
ways =
    [] ∷ (call.Start ∷ []) ∷ (call.Start ∷ call.Return ∷ []) ∷ (call.Start ∷ call.Return ∷ call.Run ∷ [])
    ∷ (call.Start ∷ call.CompleteOwn ∷ []) ∷ (call.Start ∷ call.CompleteOther ∷ [])
    ∷ (call.Start ∷ call.CompleteOwn ∷ call.Return ∷ []) ∷ (call.Start ∷ call.Return ∷ call.Timeout ∷ [])
    ∷ (call.Start ∷ call.DispatchOwn ∷ []) ∷ (call.Start ∷ call.DispatchOther ∷ [])
    ∷ (call.Start ∷ call.DispatchOwn ∷ call.Return ∷ []) ∷ (call.Start ∷ call.Fault ∷ [])
    ∷ (call.Start ∷ call.Fail ∷ []) ∷ []

where_they_lead : map (λ ks. state_of (after_calls ks)) ways
    ≡ state.Dispatched ∷ state.Starting ∷ state.Started ∷ state.ReadWriteOp ∷ state.MustComplete
    ∷ state.CompletePending ∷ state.Completing ∷ state.TimingOut ∷ state.MustDispatch ∷ state.DispatchPending
    ∷ state.Dispatching
    ∷ state.MustError ∷ state.Error ∷ []
where_they_lead = refl

abbrev heard : List Mark
heard = called call.Fault None ∷ []

abbrev unheard : List Mark
unheard = []

three_states_hear : map (λ ks. fault_marks (after_calls ks)) ways
    ≡ unheard ∷ heard ∷ heard ∷ heard ∷ unheard ∷ unheard ∷ unheard ∷ unheard ∷ unheard ∷ unheard ∷ unheard ∷ unheard
    ∷ unheard ∷ []
three_states_hear = refl

-- without an open request nobody does
none_open_hears : map fault_marks (admitted ∷ ((0, over) ∷ after_calls (call.Start ∷ [])) ∷ [])
    ≡ unheard ∷ unheard ∷ []
none_open_hears = refl

-- ---- an error answer takes the place of one of which nothing is out, else that one is broken off

abbrev service : Trace
service = (0, called call.Run None) ∷ (0, started (job.Service 0)) ∷ (0, began (request true)) ∷ admitted

abbrev head_is_out : Trace
head_is_out = (0, flushed) ∷ service

nothing_is_out : failure_marks 500 ((0, put (codes "ab")) ∷ service) ≡ error_answer 500 ∷ []
nothing_is_out = refl

something_is_out : failure_marks 500 head_is_out ≡ aborted ∷ []
something_is_out = refl

-- ---- the last answer of a request whose body is none

abbrev none : List Mark
none = []

abbrev bad_request : List Mark
bad_request = error_answer 400 ∷ []

abbrev broken_off : List Mark
broken_off = aborted ∷ []

no_error_without_a_cause : last_error_marks service ≡ []
no_error_without_a_cause = refl

-- LastAnswer, Refused, BadBody, SwallowLimit, ShortAnswer, FailedAnswer, IdleTimeout, AwaitTimeout, InputEnd,
-- InFault, OutFault, Shut
two_causes_are_told : map (λ k. last_error_marks (with_cause k service)) all_causes
    ≡ none ∷ none ∷ bad_request ∷ none ∷ none ∷ none ∷ none ∷ none ∷ bad_request ∷ none ∷ none ∷ none ∷ []
two_causes_are_told = refl

two_causes_break_off : map (λ k. last_error_marks (with_cause k head_is_out)) all_causes
    ≡ none ∷ none ∷ broken_off ∷ none ∷ none ∷ none ∷ none ∷ none ∷ broken_off ∷ none ∷ none ∷ none ∷ []
two_causes_break_off = refl

-- ---- why a connection closes behind an answer

-- it was broken off; it is short; its head said so
abbrev behind : List (Option CloseCause)
behind =
    cause_behind true true true ∷ cause_behind true false false ∷ cause_behind false true true
    ∷ cause_behind false true false ∷ cause_behind false false true ∷ cause_behind false false false ∷ []

causes_behind : behind
    ≡ Some cause.FailedAnswer ∷ Some cause.FailedAnswer ∷ Some cause.ShortAnswer ∷ Some cause.ShortAnswer
    ∷ Some cause.LastAnswer ∷ None ∷ []
causes_behind = refl

-- the last answer of its connection
abbrev last_answer : List (ℕ × Mark) → Trace
last_answer marks = marks ++ (0, began (request false)) ∷ admitted

abbrev short : List (ℕ × Mark)
short = (0, put (codes "abc")) ∷ (0, length_set 5) ∷ []

stays_open : closing_marks ((0, put (codes "abc")) ∷ service) ≡ []
unfolding head_text date_at count_off digits
stays_open = refl

said_close : closing_marks (last_answer ((0, put (codes "abc")) ∷ [])) ≡ caused cause.LastAnswer ∷ []
unfolding head_text date_at count_off digits
said_close = refl

short_before_last : closing_marks (last_answer short) ≡ caused cause.ShortAnswer ∷ []
unfolding head_text date_at count_off digits
short_before_last = refl

failed_before_short : closing_marks (last_answer ((0, aborted) ∷ (0, flushed) ∷ short))
    ≡ caused cause.FailedAnswer ∷ []
unfolding head_text date_at count_off digits
failed_before_short = refl

-- a length of what was put isn't short, nor an answer without content
long_enough : closing_marks ((0, put (codes "abcde")) ∷ (0, length_set 5) ∷ service) ≡ []
unfolding head_text date_at count_off digits
long_enough = refl

by_the_newest_length : closing_marks ((0, length_set 3) ∷ short ++ service) ≡ []
unfolding head_text date_at count_off digits
by_the_newest_length = refl

without_content : closing_marks ((0, status_set 304) ∷ short ++ service) ≡ []
unfolding head_text date_at count_off digits
without_content = refl

-- an answer that goes on until the connection closes
abbrev old : Bool → TakenUp
old keep = record (request keep) {
  head = record { method = codes "GET"; target = codes "/"; minor = 0; fields = [] };
}

until_close : closing_marks ((0, flushed) ∷ (0, put (codes "ab")) ∷ (0, began (old true)) ∷ admitted)
    ≡ caused cause.LastAnswer ∷ []
unfolding head_text date_at count_off digits
until_close = refl

old_and_kept : closing_marks ((0, put (codes "ab")) ∷ (0, began (old true)) ∷ admitted) ≡ []
unfolding head_text date_at count_off digits
old_and_kept = refl

-- where there is a cause, none is set behind the answer
no_cause_behind_a_cause : map (λ k. closing_marks (with_cause k (last_answer short))) all_causes
    ≡ none ∷ none ∷ none ∷ none ∷ none ∷ none ∷ none ∷ none ∷ none ∷ none ∷ none ∷ none ∷ []
unfolding head_text date_at count_off digits
no_cause_behind_a_cause = refl

-- ---- the marks of an end

plain_end : end_marks service ≡ over ∷ []
unfolding head_text date_at count_off digits
plain_end = refl

last_end : end_marks (last_answer []) ≡ over ∷ caused cause.LastAnswer ∷ []
unfolding head_text date_at count_off digits
last_end = refl

end_of_a_bad_body : end_marks (with_cause cause.BadBody (last_answer short)) ≡ error_answer 400 ∷ over ∷ []
unfolding head_text date_at count_off digits
end_of_a_bad_body = refl

end_of_a_cut_body : end_marks (with_cause cause.InputEnd head_is_out) ≡ aborted ∷ over ∷ []
unfolding head_text date_at count_off digits
end_of_a_cut_body = refl

-- ---- when a connection is gone: a cause, no open request, and nothing that waits for the socket

gone_with_a_cause : is_gone_by shut false [] ≡ true
gone_with_a_cause = refl

not_without_a_cause : is_gone_by None false [] ≡ false
not_without_a_cause = refl

not_in_a_request : is_gone_by shut true [] ≡ false
not_in_a_request = refl

not_before_all_is_sent : is_gone_by shut false (0 ∷ []) ≡ false
not_before_all_is_sent = refl

abbrev finished : Trace
finished = (0, caused cause.LastAnswer) ∷ (0, over) ∷ last_answer ((0, put (codes "ab")) ∷ [])

-- its answer has 94 bytes
gone_with_its_last_byte : map (λ n. is_gone ((1, sent n) ∷ finished)) (0 ∷ 93 ∷ 94 ∷ []) ≡ false ∷ false ∷ true ∷ []
unfolding head_text date_at count_off digits
gone_with_its_last_byte = refl

gone_where_broken : is_gone ((1, broken) ∷ finished) ≡ true
unfolding head_text date_at count_off digits
gone_where_broken = refl

not_while_open : is_gone ((1, broken) ∷ with_cause cause.Shut service) ≡ false
not_while_open = refl

gone_before_a_request : is_gone ((1, broken) ∷ (1, caused cause.IdleTimeout) ∷ admitted) ≡ true
gone_before_a_request = refl
