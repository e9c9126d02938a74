-- Laws of the definitions. Each is the contract of a public function without a body.
use Rattle.std.specs.Prelude.{◌≡◌, ◌≢◌, ◌<◌, ◌≤◌, ◌⊎◌, ℕ, ◌+◌, Bool, true, false, List, [], ◌∷◌, ◌++◌, All, codes, drop, length, Option, option_map, Some, None, Ok}
use Rattle.cy_event.specs.declared.limits.Limits.{Limits}
use Rattle.cy_event.specs.declared.steps.Act.TheVariants as act
use Rattle.cy_event.specs.declared.steps.Call.{Call}
use Rattle.cy_event.specs.declared.steps.CloseCause.{CloseCause}
use Rattle.cy_event.specs.declared.steps.CloseCause.TheVariants.{BadBody, InputEnd, Refused, SwallowLimit}
use Rattle.cy_event.specs.declared.steps.Event.TheVariants as event
use Rattle.cy_event.specs.declared.steps.Job.TheVariants as job
use Rattle.cy_event.specs.declared.steps.Reply.TheVariants as reply
use Rattle.cy_event.specs.declared.steps.Step.{Step}
use Rattle.cy_event.specs.declared.steps.Step.TheVariants as step
use Rattle.cy_event.specs.Limits.{standard}
use Rattle.cy_map.specs.declared.rule.Rule.{Rule}
use Rattle.cy_event.specs.Table.{IsLegal}
use Rattle.cy_model.specs.Connections.{admission, connections, counted, kind_of, moment, own_entries, reply_by, own}
use Rattle.cy_model.specs.Entries.{Entry, opening, tick, on_run, after, trace_of, reply_to}
use Rattle.cy_event.specs.Answers.{refusal_text}
use Rattle.cy_event.specs.Bodies.{body_of, whole}
use Rattle.cy_event.specs.Framings.{Framed, framed}
use Rattle.cy_event.specs.Heads.{Head, found, head_of}
use Rattle.cy_model.specs.Folds.{bytes_of, cause_of, charts, ended_charts, has_ended, is_open, is_served, request_of, requests_of, running}
use Rattle.cy_model.specs.Inputs.{consumed, has_bad_body, has_whole_body, swallowed}
use Rattle.cy_model.specs.Outputs.{is_gone, output}
use Rattle.cy_event.specs.declared.steps.Call.TheVariants as call
use Rattle.cy_model.specs.Marks.{Mark, TakenUp, Trace, began, refused, called, error_answer, aborted, over, caused}
use Rattle.cy_model.specs.Replies.{is_refusal, plain}
use Rattle.cy_model.specs.Reports.{report}
use Rattle.cy_model.specs.Runs.{IsLegalRun, answered}
use Rattle.cy_model.specs.Steps.{IsValid}
use Rattle.cy_model.specs.Settling.{due_by_verdict, due_of, front_of, is_awaited, may_begin, next_move, not_found, refusal, request, settle_step, settled, rested_and_taken_up}
use Rattle.cy_model.specs.Verdicts.{is_unbuilt, served, verdict_of}

-- no move applies to a settled trace
abbrev pub SettlingRests : Type 0
SettlingRests = (limits : Limits) (rules : List Rule) (t : ℕ) (T : Trace) → next_move limits rules (settled limits rules t T) ≡ None

-- settling is unchanged by making its first move
abbrev pub SettlingGoesOn : Type 0
SettlingGoesOn =
    (limits : Limits) (rules : List Rule) (t : ℕ) (T R : Trace)
    → settle_step limits rules t T ≡ Some R → settled limits rules t T ≡ settled limits rules t R

-- settling is resting, and then taking up a due head and resting again, while one is due
abbrev pub SettlingIsTwoWords : Type 0
SettlingIsTwoWords = (limits : Limits) (rules : List Rule) (t : ℕ) (T : Trace) → rested_and_taken_up limits rules t T ≡ settled limits rules t T

-- whatever the entries of a connection are, no head waits that could be taken up or refused: where a head may be taken
-- up, it is awaited. A head may have one byte at least: where it may have none, the first is malformed before a byte came
abbrev pub NoHeadWaits : Type 0
NoHeadWaits =
    (limits : Limits) (rules : List Rule) (entries : List (ℕ × Entry)) → 1 ≤ limits.max_head
    → may_begin (trace_of limits rules entries) ≡ true → is_awaited (front_of limits (trace_of limits rules entries)) ≡ true

-- nor does the end of the input wait: where a head may be taken up, the input has not ended
abbrev pub NoEndWaits : Type 0
NoEndWaits =
    (limits : Limits) (rules : List Rule) (entries : List (ℕ × Entry)) → 1 ≤ limits.max_head
    → may_begin (trace_of limits rules entries) ≡ true → has_ended (trace_of limits rules entries) ≡ false

-- where a connection closes for the end of its input, no head was left: the input ended inside a body, or a head is
-- awaited still
abbrev pub NoHeadIsLost : Type 0
NoHeadIsLost =
    (limits : Limits) (rules : List Rule) (entries : List (ℕ × Entry))
    → cause_of (trace_of limits rules entries) ≡ Some InputEnd
    → (has_whole_body (trace_of limits rules entries) ≡ false) ⊎ (is_awaited (front_of limits (trace_of limits rules entries)) ≡ true)

-- why a connection closes for a body stands in the bytes that came: the body is bad, or more of it was passed over than may
-- be. The bytes that come later can't take it back
pub record BodyDecides (limits : Limits) (T : Trace) : Type 0 where
  pub bad : cause_of T ≡ Some BadBody → has_bad_body T ≡ true
  pub long : cause_of T ≡ Some SwallowLimit → limits.max_swallow < swallowed T

-- so it is, whatever the entries of a connection are
abbrev pub BodiesDecide : Type 0
BodiesDecide = (limits : Limits) (rules : List Rule) (entries : List (ℕ × Entry)) → BodyDecides limits (trace_of limits rules entries)

-- ---- what the container does by itself

-- its calls of the state table are Return and Fault alone
abbrev pub is_containers_call : Call → Bool
is_containers_call call.Return = true
is_containers_call call.Fault = true
is_containers_call k = false

-- a mark that the container makes: it takes no bytes, delivers no content, runs no callback and accepts no act of one
abbrev pub is_containers : Mark → Bool
is_containers (began r) = true
is_containers (refused status to_head) = true
is_containers (called k part) = is_containers_call k
is_containers (error_answer status) = true
is_containers aborted = true
is_containers over = true
is_containers (caused k) = true
is_containers m = false

abbrev pub AllContainers : List Mark → Type 0
AllContainers [] = Unit {0}
AllContainers (m ∷ ms) = (is_containers m ≡ true) × AllContainers ms

-- each move makes such marks alone
abbrev pub MovesAreTheContainers : Type 0
MovesAreTheContainers =
    (limits : Limits) (rules : List Rule) (T : Trace) (ms : List Mark) → next_move limits rules T ≡ Some ms → AllContainers ms

-- ---- the worked example

abbrev pub one_rule : List Rule
one_rule = record { pattern = codes "/"; part = 0; can_async = true } ∷ []

-- one GET, answered with `hello`
abbrev pub example_steps : List Step
example_steps =
    step.Admit 1 ∷ step.On 1 event.In (codes "GET / HTTP/1.1\r\nHost: a\r\n\r\n") ∷ step.Run 1
    ∷ step.Act 1 (act.Write 5) (codes "hello") ∷ step.Act 1 act.Return [] ∷ []

abbrev pub example_report : List ℕ
example_report =
    codes "1 Entered\n2 Taken 27\n3 Begun service 0\n4 Taken 5\n5 Done\n"
    ++ codes "conn 1 open took 0 of 78\n"
    ++ codes "out \"HTTP/1.1 200 \\r\\nContent-Length: 5\\r\\nDate: Thu, 01 Jan 1970 00:00:00 GMT\\r\\n\\r\\nhello\"\n"
    ++ codes "chart 1 1 Run Return\n"

-- its report is what the definitions compute
abbrev pub ExampleIsReported : Type 0
ExampleIsReported = report (standard 1) one_rule example_steps ≡ example_report

-- ---- runs

-- whatever the valid steps of a connector are, the own entries of each connection, so answered, are a legal run
abbrev pub RunsAreLegal : Type 0
RunsAreLegal =
    (limits : Limits) (rules : List Rule) (w : List Step) → IsValid w
    → All (λ h. IsLegalRun limits rules (answered limits rules h.entries)) (connections limits rules w)

-- whatever the entries of a connection are, the calls of each of its requests are a legal history of the state table
abbrev pub ChartsAreLegal : Type 0
ChartsAreLegal = (limits : Limits) (rules : List Rule) (entries : List (ℕ × Entry)) → All IsLegal (charts (trace_of limits rules entries))

-- the connection is gone, and nothing was added to its output
pub record StaysGone (before later : Trace) : Type 0 where
  pub gone : is_gone later ≡ true
  pub written : output later ≡ output before

-- a connection that is gone stays gone, whatever entry follows
abbrev pub GoneStaysGone : Type 0
GoneStaysGone =
    (limits : Limits) (rules : List Rule) (t : ℕ) (T : Trace) (e : Entry) → is_gone T ≡ true
    → StaysGone T (after limits rules t T e)

-- whatever the steps of a connector are, the limit of counted connections is kept
abbrev pub LimitIsKept : Type 0
LimitIsKept =
    (limits : Limits) (rules : List Rule) (w : List Step) → counted limits rules (connections limits rules w) ≤ limits.max_connections

-- ---- heads at their places

-- the grammar finds the head at its place in these bytes, and whatever bytes come behind them
abbrev pub IsAtPlace : Limits → List ℕ → TakenUp → Type 0
IsAtPlace limits bytes r =
    (more : List ℕ) → head_of limits.max_head limits.max_fields (drop r.place (bytes ++ more)) ≡ found r.size r.head

-- behind the head of a request stands its whole body, of so many bytes, whatever comes behind it
abbrev pub HasBody : List ℕ → TakenUp → ℕ → Type 0
HasBody bytes r n =
    (more : List ℕ)
    → (content : List ℕ) × (body_of r.max_trailer r.framing (drop (r.place + r.size) (bytes ++ more)) ≡ whole content n)

-- requests stand in a row from this place on: behind each stands its whole body, and the next begins where that ends
abbrev pub AreInRow : List ℕ → ℕ → List TakenUp → Type 0
AreInRow bytes from [] = Unit {0}
AreInRow bytes from (r ∷ []) = r.place ≡ from
AreInRow bytes from (r ∷ q ∷ rs) = (r.place ≡ from) × (n : ℕ) × HasBody bytes r n × AreInRow bytes (r.place + r.size + n) (q ∷ rs)

abbrev pub last_of : List TakenUp → Option TakenUp
last_of [] = None
last_of (r ∷ []) = Some r
last_of (r ∷ q ∷ rs) = last_of (q ∷ rs)

-- a head stands where the whole body of the last request ends, or at the first byte
abbrev pub Follows : List ℕ → Option TakenUp → TakenUp → Type 0
Follows bytes None r = r.place ≡ 0
Follows bytes (Some last) r = (n : ℕ) × HasBody bytes last n × (r.place ≡ last.place + last.size + n)

-- the requests of a trace stand in all the bytes that came, and the next is looked for behind the last body alone
pub record AreAtTheirPlaces (limits : Limits) (T : Trace) : Type 0 where
  pub heads : All (IsAtPlace limits (bytes_of T)) (requests_of T)
  pub row : AreInRow (bytes_of T) 0 (requests_of T)
  pub next : may_begin T ≡ true → (r : TakenUp) → r.place ≡ consumed T → Follows (bytes_of T) (last_of (requests_of T)) r

-- Whatever the entries of a connection are, and so however its bytes were cut: each head that was taken up is the one
-- that the grammar finds at its place in all the bytes that came, now and later; its whole body stands behind it before
-- the next begins, and nothing of a body is taken for a head (RFC 9112, sections 6.3 and 11.2).
abbrev pub HeadsAreAtTheirPlaces : Type 0
HeadsAreAtTheirPlaces =
    (limits : Limits) (rules : List Rule) (entries : List (ℕ × Entry)) → AreAtTheirPlaces limits (trace_of limits rules entries)

-- what came, what was taken up, what was written and the charts of the ended requests stay, and what was added stands
-- behind; so does a cause to close, once it was set
pub record OnlyGrows (before later : Trace) : Type 0 where
  pub bytes : (more : List ℕ) × (bytes_of later ≡ bytes_of before ++ more)
  pub requests : (more : List TakenUp) × (requests_of later ≡ requests_of before ++ more)
  pub written : (more : List ℕ) × (output later ≡ output before ++ more)
  pub ended : (more : List (List Call)) × (ended_charts later ≡ ended_charts before ++ more)
  pub cause : (k : CloseCause) → cause_of before ≡ Some k → cause_of later ≡ Some k

-- whatever entry follows whatever trace
abbrev pub NothingIsTakenBack : Type 0
NothingIsTakenBack =
    (limits : Limits) (rules : List Rule) (t : ℕ) (T : Trace) (e : Entry) → OnlyGrows T (after limits rules t T e)

-- A request has the framing that its head has, and is none that isn't served yet: none of HEAD.
pub record IsFramedByHead (r : TakenUp) : Type 0 where
  pub framing : Framed
  pub of_head : framed r.head.minor r.head.fields ≡ Ok framing
  pub same : r.framing ≡ framing.body
  pub built : is_unbuilt r.head ≡ false

-- whatever the entries of a connection are, so is each request that it took up (RFC 9112, section 6.3)
abbrev pub RequestsAreFramed : Type 0
RequestsAreFramed =
    (limits : Limits) (rules : List Rule) (entries : List (ℕ × Entry)) → All IsFramedByHead (requests_of (trace_of limits rules entries))

-- ---- ends and refusals

-- a request begins only where none is open, and one ends only where one is open
abbrev pub TakeTurns : Trace → Type 0
TakeTurns [] = Unit {0}
TakeTurns ((t, began r) ∷ T) = (is_open T ≡ false) × TakeTurns T
TakeTurns ((t, over) ∷ T) = (is_open T ≡ true) × TakeTurns T
TakeTurns ((t, m) ∷ T) = TakeTurns T

-- each request that was taken up has one chart
pub record EndOnce (T : Trace) : Type 0 where
  pub turns : TakeTurns T
  pub charts : length (charts T) ≡ length (requests_of T)

-- whatever the entries of a connection are, each request that it took up ends once at most, and nothing else ends
abbrev pub RequestsEndOnce : Type 0
RequestsEndOnce = (limits : Limits) (rules : List Rule) (entries : List (ℕ × Entry)) → EndOnce (trace_of limits rules entries)

-- a request of this number is what its head leads to: a rule serves it or none does, and it isn't to be refused. So its
-- component, its asynchronous support and what is said of its connection are those of the verdict
abbrev pub IsJudged : Limits → List Rule → ℕ → TakenUp → Type 0
IsJudged limits rules number r =
    let due = due_by_verdict limits r.place number r.size r.head (verdict_of rules r.head) in (due ≡ request r) ⊎ (due ≡ not_found r)

-- requests that are numbered from here on
abbrev pub AreJudged : Limits → List Rule → ℕ → List TakenUp → Type 0
AreJudged limits rules number [] = Unit {0}
AreJudged limits rules number (r ∷ rs) = IsJudged limits rules number r × AreJudged limits rules (number + 1) rs

-- so are all that a connection took up, whatever its entries are
abbrev pub RequestsAreJudged : Type 0
RequestsAreJudged =
    (limits : Limits) (rules : List Rule) (entries : List (ℕ × Entry)) → AreJudged limits rules 1 (requests_of (trace_of limits rules entries))

-- a refusal is due at the front of the bytes that wait, and its answer is the last that was written
pub record TellsRefusal (limits : Limits) (rules : List Rule) (T : Trace) : Type 0 where
  pub status : ℕ
  pub to_head : Bool
  pub due : due_of limits rules T ≡ refusal status to_head
  pub moment : ℕ
  pub before : List ℕ
  pub told : output T ≡ before ++ refusal_text status to_head moment

-- whatever the entries of a connection are: it closes as refused only where the head that stands there is to be refused,
-- and then the answer that says so was written
abbrev pub RefusalsAreTold : Type 0
RefusalsAreTold =
    (limits : Limits) (rules : List Rule) (entries : List (ℕ × Entry))
    → cause_of (trace_of limits rules entries) ≡ Some Refused → TellsRefusal limits rules (trace_of limits rules entries)

-- ---- turns

-- a worker's turn begins the service of the component that the rule for this head names
pub record TurnBegins (limits : Limits) (rules : List Rule) (now : ℕ) (T : Trace) (head : Head) : Type 0 where
  pub rule : Rule
  pub framing : Framed
  pub mapped : verdict_of rules head ≡ served rule framing
  pub reply : reply_to limits rules now T on_run ≡ plain (reply.Begun (job.Service rule.part))
  pub runs : running (after limits rules now T on_run) ≡ Some (job.Service rule.part)

-- whatever the entries of a connection are: while a request is open whose service has not begun, a worker's turn begins it
abbrev pub TurnsServe : Type 0
TurnsServe =
    (limits : Limits) (rules : List Rule) (entries : List (ℕ × Entry)) (now : ℕ) (r : TakenUp)
    → is_open (trace_of limits rules entries) ≡ true → is_served (trace_of limits rules entries) ≡ false
    → request_of (trace_of limits rules entries) ≡ Some r → TurnBegins limits rules now (trace_of limits rules entries) r.head

-- ---- own entries

-- the trace of a connection, if it was admitted
abbrev pub own_trace : Limits → List Rule → List Step → ℕ → Option Trace
own_trace limits rules w c = option_map (trace_of limits rules) (own_entries limits rules w c)

-- Whatever else two connectors did: where a connection has the same own entries, it has the same trace, and each entry
-- at the same moment is answered alike.
pub record AreAlike (limits : Limits) (rules : List Rule) (w v : List Step) (c : ℕ) : Type 0 where
  pub trace : own_trace limits rules w c ≡ own_trace limits rules v c
  pub replies : (now : ℕ) (e : Entry)
      → reply_by limits rules (own c e) now (connections limits rules w) ≡ reply_by limits rules (own c e) now (connections limits rules v)

-- A step of one connection adds an entry to the list of that one, if it was admitted, and none to another.
pub record AddsOwn (limits : Limits) (rules : List Rule) (w : List Step) (s : Step) (c : ℕ) (e : Entry) : Type 0 where
  pub own : own_entries limits rules (s ∷ w) c ≡ option_map (λ entries. (moment w, e) ∷ entries) (own_entries limits rules w c)
  pub other : (d : ℕ) → d ≢ c → own_entries limits rules (s ∷ w) d ≡ own_entries limits rules w d

abbrev pub OwnStepsAddOwnEntries : Type 0
OwnStepsAddOwnEntries =
    (limits : Limits) (rules : List Rule) (w : List Step) (s : Step) (c : ℕ) (e : Entry)
    → kind_of s ≡ own c e → AddsOwn limits rules w s c e

-- A step of the clock adds a tick to the list of each connection that was admitted.
abbrev pub ClockTicksForEach : Type 0
ClockTicksForEach =
    (limits : Limits) (rules : List Rule) (w : List Step) (t c : ℕ)
    → own_entries limits rules (step.At t ∷ w) c ≡ option_map (λ entries. (t, tick) ∷ entries) (own_entries limits rules w c)

-- An admission that is accepted opens one list, that of its number, and leaves the others.
pub record OpensOne (limits : Limits) (rules : List Rule) (w : List Step) (c : ℕ) : Type 0 where
  pub own : own_entries limits rules w c ≡ None → own_entries limits rules (step.Admit c ∷ w) c ≡ Some ((moment w, opening) ∷ [])
  pub other : (d : ℕ) → d ≢ c → own_entries limits rules (step.Admit c ∷ w) d ≡ own_entries limits rules w d

abbrev pub AdmissionsOpenOne : Type 0
AdmissionsOpenOne =
    (limits : Limits) (rules : List Rule) (w : List Step) (c : ℕ)
    → reply_by limits rules (admission c) (moment w) (connections limits rules w) ≡ plain reply.Entered → OpensOne limits rules w c

-- One that finds as many counted as may be opens none.
abbrev pub FullOpensNone : Type 0
FullOpensNone =
    (limits : Limits) (rules : List Rule) (w : List Step) (c n : ℕ)
    → reply_by limits rules (admission c) (moment w) (connections limits rules w) ≡ plain (reply.Full n)
    → connections limits rules (step.Admit c ∷ w) ≡ connections limits rules w

-- A step that is refused, or can do nothing now, leaves no mark.
abbrev pub RefusalsLeaveNoMark : Type 0
RefusalsLeaveNoMark =
    (limits : Limits) (rules : List Rule) (t : ℕ) (T : Trace) (e : Entry) → is_refusal (reply_to limits rules t T e).reply ≡ true
    → after limits rules t T e ≡ T

abbrev pub OwnEntriesDecide : Type 0
OwnEntriesDecide =
    (limits : Limits) (rules : List Rule) (w v : List Step) (c : ℕ)
    → own_entries limits rules w c ≡ own_entries limits rules v c → AreAlike limits rules w v c
