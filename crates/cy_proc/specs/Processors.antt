-- What is kept of a request, and which traces that stands for.
use Rattle.std.specs.Prelude.{◌≡◌, ◌≤◌, ◌⊎◌, ℕ, length, Bool, true, false, ◌&&◌, ◌||◌, List, [], ◌∷◌, Option, Some, None, is_some, if◌then◌else◌}
use Rattle.cy_event.specs.declared.limits.Limits.{Limits}
use Rattle.cy_event.specs.declared.steps.Call.{Call}
use Rattle.cy_event.specs.declared.steps.Call.TheVariants as call
use Rattle.cy_event.specs.declared.steps.Job.{Job}
use Rattle.cy_event.specs.declared.steps.Job.TheVariants as job
use Rattle.cy_event.specs.declared.table.ChartItem.{ChartItem}
use Rattle.cy_event.specs.declared.steps.State.{State}
use Rattle.cy_event.specs.AnswerModes.{Asked}
use Rattle.cy_event.specs.Answers.{Answer, after_put, content_buffer, fresh_answer}
use Rattle.cy_event.specs.Heads.{Head}
use Rattle.cy_event.specs.RequestHeads.{RequestParts, no_request}
use Rattle.cy_event.specs.Table.{state_after}
use Rattle.cy_event.specs.Targets.{target_of}
use Rattle.cy_head.specs.Answers.{just_read}
use Rattle.cy_event.specs.Answering.{Sending, beginning}
use Rattle.cy_model.specs.Folds.{calls, is_open, is_refused, is_served, part_of, request_of, running, state_of}
use Rattle.cy_model.specs.Outputs.{answer_of, sending_of}
use Rattle.cy_model.specs.Marks.{TakenUp, Trace}
use Rattle.cy_states.specs.Progress.{Progress, progress_of}
use Rattle.cy_target.specs.Kept.{with_target}
use Rattle.cy_proc.specs.declared.processor.Stage.{Stage}
use Rattle.cy_proc.specs.declared.processor.Stage.TheVariants as stage

pub record ProcessorParts : Type 0 where
  pub limits : Limits
  pub stage : Stage
  -- the head table, with the path and the query of its target
  pub table : RequestParts
  pub progress : Progress
  pub content : List ℕ
  pub part : ℕ
  pub can_async : Bool
  pub keep : Bool

-- as a processor is made, and after it was cleared: nothing is left of a request
abbrev pub fresh_processor : Limits → ProcessorParts
fresh_processor limits = record {
  limits = limits;
  stage = stage.Free;
  table = no_request;
  progress = progress_of [];
  content = [];
  part = 0;
  can_async = false;
  keep = false;
}

-- the table of a head whose target was read
abbrev pub table_of : Head → RequestParts
table_of head = with_target (target_of head.method head.target) (just_read head)

-- ---- what a trace says of its last request

pub record RequestFolds : Type 0 where
  pub taken : Option TakenUp
  pub minor : ℕ
  pub keep : Bool
  pub part : ℕ
  pub calls : List Call
  pub state : State
  pub is_open : Bool
  pub is_refused : Bool
  pub running : Option Job
  pub is_served : Bool
  pub answer : Answer
  pub sending : Sending

abbrev pub minor_by : Option TakenUp → ℕ
minor_by None = 0
minor_by (Some r) = r.head.minor

abbrev pub keep_by : Option TakenUp → Bool
keep_by None = false
keep_by (Some r) = r.keep

abbrev pub request_folds : Trace → RequestFolds
request_folds T = record {
  taken = request_of T;
  minor = minor_by (request_of T);
  keep = keep_by (request_of T);
  part = part_of T;
  calls = calls T;
  state = state_of T;
  is_open = is_open T;
  is_refused = is_refused T;
  running = running T;
  is_served = is_served T;
  answer = answer_of T;
  sending = sending_of T;
}

-- ---- the parts that this leaves

-- of an open request, by the callback that runs
abbrev pub open_stage : Option Job → Stage
open_stage None = stage.Owed
open_stage (Some j) = stage.Serving

-- the last head was refused or taken up, or there was none
abbrev pub closed_stage : Bool → Option TakenUp → Stage
closed_stage true taken = stage.Refused
closed_stage false None = stage.Free
closed_stage false (Some r) = stage.Over

abbrev pub stage_by : Bool → Bool → Option TakenUp → Option Job → Stage
stage_by true is_refused taken running = open_stage running
stage_by false is_refused taken running = closed_stage is_refused taken

abbrev pub stage_of : RequestFolds → Stage
stage_of f = stage_by f.is_open f.is_refused f.taken f.running

abbrev pub table_by : Option TakenUp → RequestParts
table_by None = no_request
table_by (Some r) = table_of r.head

abbrev pub can_async_by : Option TakenUp → Bool
can_async_by None = false
can_async_by (Some r) = r.can_async

-- the content that waits for the head of the answer
abbrev pub waiting_content : Bool → Answer → List ℕ
waiting_content true a = a.content
waiting_content false a = []

-- The parts of a processor whose request is open, or is over and not yet cleared, or whose head was refused.
abbrev pub processor_parts : Limits → RequestFolds → ProcessorParts
processor_parts limits f = record {
  limits = limits;
  stage = stage_of f;
  table = table_by f.taken;
  progress = progress_of f.calls;
  content = waiting_content f.is_open f.answer;
  part = f.part;
  can_async = can_async_by f.taken;
  keep = f.keep;
}

-- ---- which traces the parts stand for

-- the calls of a service that was begun, or not yet
abbrev pub service_calls : List Call
service_calls = call.Run ∷ []

abbrev pub calls_by : Bool → List Call
calls_by true = service_calls
calls_by false = []

-- the callback of an open request whose service was begun
abbrev pub service_by : Bool → Bool → ℕ → Option Job
service_by is_open is_served part = if is_open && is_served then Some (job.Service part) else None

-- the request that is answered: it isn't one of HEAD
abbrev pub asked_at : ℕ → Bool → Asked
asked_at minor keep = record { minor = minor; is_head = false; keep = keep }

-- an answer of which nothing is out: its content waits
abbrev pub uncut : ℕ → Bool → Answer → Sending
uncut minor keep a = record (beginning (asked_at minor keep)) { waiting = a.content }

-- What holds of the last request while no callback but a service is begun, and no act but writes and returns is made.
pub record IsServiceAlone (f : RequestFolds) : Type 0 where
  pub minor : f.minor ≡ minor_by f.taken
  -- a head was taken up or refused; that of an open request was taken up, so it is over once it ends
  pub begun : (is_some f.taken || f.is_refused) ≡ true
  pub taken : f.is_open ≡ true → closed_stage f.is_refused f.taken ≡ stage.Over
  pub state : f.state ≡ state_after f.calls
  -- while it is open its service runs, from its begin on
  pub running : f.running ≡ service_by f.is_open f.is_served f.part
  pub calls : f.is_open ≡ true → f.calls ≡ calls_by f.is_served
  -- and its answer has nothing but content
  pub answer : f.is_open ≡ true → f.answer ≡ after_put f.answer.content fresh_answer
  pub few : f.is_open ≡ true → length f.answer.content ≤ content_buffer
  pub sending : f.is_open ≡ true → f.sending ≡ uncut f.minor f.keep f.answer

-- no request is open, and no callback runs
pub record IsIdle (f : RequestFolds) : Type 0 where
  pub closed : f.is_open ≡ false
  pub none_runs : f.running ≡ None

-- the parts are those of the last request
pub record IsOfRequest (f : RequestFolds) (p : ProcessorParts) : Type 0 where
  pub same : p ≡ processor_parts p.limits f
  pub alone : IsServiceAlone f

-- the parts are free, and no request is open
pub record IsFree (f : RequestFolds) (p : ProcessorParts) : Type 0 where
  pub idle : IsIdle f
  pub fresh : p ≡ fresh_processor p.limits

-- the parts stand for what a trace says of its last request
abbrev pub StandsBy : RequestFolds → ProcessorParts → Type 0
StandsBy f p = IsOfRequest f p ⊎ IsFree f p

-- the parts stand for a trace
abbrev pub StandsForRequest : Trace → ProcessorParts → Type 0
StandsForRequest T p = StandsBy (request_folds T) p

-- ---- what a stage says

-- the progress of a request at each stage
abbrev pub IsReady : Stage → Progress → Type 0
IsReady stage.Free progress = progress ≡ progress_of []
IsReady stage.Owed progress = progress ≡ progress_of []
IsReady stage.Serving progress = progress ≡ progress_of service_calls
IsReady stage.Over progress = Unit {0}
IsReady stage.Refused progress = progress ≡ progress_of []

-- no head was opened
abbrev pub is_free_at : Stage → Bool
is_free_at stage.Free = true
is_free_at s = false

-- a request is open
abbrev pub is_open_at : Stage → Bool
is_open_at stage.Free = false
is_open_at stage.Owed = true
is_open_at stage.Serving = true
is_open_at stage.Over = false
is_open_at stage.Refused = false

-- the last head is done with: its request has ended, or it was refused
abbrev pub is_over_at : Stage → Bool
is_over_at stage.Free = false
is_over_at stage.Owed = false
is_over_at stage.Serving = false
is_over_at stage.Over = true
is_over_at stage.Refused = true

-- a request was taken up
abbrev pub has_request_at : Stage → Bool
has_request_at stage.Free = false
has_request_at stage.Owed = true
has_request_at stage.Serving = true
has_request_at stage.Over = true
has_request_at stage.Refused = false

-- the part of an open request
abbrev pub part_at : ProcessorParts → ℕ
part_at p = if is_open_at p.stage then p.part else 0

-- the chart of a request that is over
abbrev pub over_charts_at : Stage → Progress → List (List ChartItem)
over_charts_at stage.Over progress = progress.chart ∷ []
over_charts_at s progress = []

abbrev pub over_charts : ProcessorParts → List (List ChartItem)
over_charts p = over_charts_at p.stage p.progress
