-- What a trace tells of its connection and of its last request, as far as another program tells it too.
use Rattle.std.specs.Prelude.{ℕ, Bool, List, Option, length}
use Rattle.cy_event.specs.declared.steps.Call.{Call}
use Rattle.cy_event.specs.declared.steps.CloseCause.{CloseCause}
use Rattle.cy_event.specs.declared.steps.Job.{Job}
use Rattle.cy_event.specs.declared.steps.State.{State}
use Rattle.cy_event.specs.Answering.{has_to_cut}
use Rattle.cy_event.specs.Heads.{Field}
use Rattle.cy_event.specs.ReadyListeners.{ReadyListeners}
use Rattle.cy_model.specs.Folds.{Parked, begun_count, bytes_of, cause_of, charts, context_of, has_ended, idle_since, is_broken, is_open, parked_callback, part_of, ready_listeners, running, state_of}
use Rattle.cy_model.specs.Inputs.{consumed, given_count, has_bad_body, has_whole_body, is_end_told, room, swallowed, used, waiting}
use Rattle.cy_model.specs.Jobs.{next_job, takes_one}
use Rattle.cy_model.specs.Marks.{Trace}
use Rattle.cy_model.specs.Outputs.{answer_of, is_aborted, is_committed, is_gone, output, sending_of, took, unsent}

pub record ConnectionTold : Type 0 where
  pub came : ℕ
  pub consumed : ℕ
  pub room : ℕ
  pub has_ended : Bool
  pub cause : Option CloseCause
  pub is_broken : Bool
  pub is_gone : Bool
  pub is_open : Bool
  pub begun : ℕ
  pub output : List ℕ
  pub took : ℕ
  pub unsent : ℕ
  pub idle_since : ℕ
  pub next_job : Option Job
  pub charts : List (List Call)

abbrev pub connection_told : Trace → ConnectionTold
connection_told T = record {
  came = length (bytes_of T);
  consumed = consumed T;
  room = room T;
  has_ended = has_ended T;
  cause = cause_of T;
  is_broken = is_broken T;
  is_gone = is_gone T;
  is_open = is_open T;
  begun = begun_count T;
  output = output T;
  took = took T;
  unsent = length (unsent T);
  idle_since = idle_since T;
  next_job = next_job T;
  charts = charts T;
}

-- of the input and the callbacks
pub record RequestTold : Type 0 where
  pub part : ℕ
  pub state : State
  pub running : Option Job
  pub parked : Option Parked
  pub given : ℕ
  pub is_end_told : Bool
  pub waiting : ℕ
  pub used : ℕ
  pub swallowed : ℕ
  pub has_whole_body : Bool
  pub has_bad_body : Bool
  pub listeners : List ℕ
  pub owed : List Job
  pub deadline : Option ℕ
  pub ready : ReadyListeners

abbrev pub request_told : Trace → RequestTold
request_told T = record {
  part = part_of T;
  state = state_of T;
  running = running T;
  parked = parked_callback T;
  given = given_count T;
  is_end_told = is_end_told T;
  waiting = length (waiting T);
  used = used T;
  swallowed = swallowed T;
  has_whole_body = has_whole_body T;
  has_bad_body = has_bad_body T;
  listeners = (context_of T).listeners;
  owed = (context_of T).owed;
  deadline = (context_of T).deadline;
  ready = ready_listeners T;
}

-- of the answer
pub record AnswerTold : Type 0 where
  pub status : ℕ
  pub fields : List Field
  pub set_length : Option ℕ
  pub content : ℕ
  pub is_aborted : Bool

abbrev pub answer_told : Trace → AnswerTold
answer_told T = record {
  status = (answer_of T).status;
  fields = (answer_of T).fields;
  set_length = (answer_of T).set_length;
  content = length (answer_of T).content;
  is_aborted = is_aborted T;
}

-- while the request is open: whether its head is out, one byte would be taken, and a flush would cut
pub record OpenTold : Type 0 where
  pub is_committed : Bool
  pub takes_one : Bool
  pub has_to_cut : Bool

abbrev pub open_told : Trace → OpenTold
open_told T = record { is_committed = is_committed T; takes_one = takes_one T; has_to_cut = has_to_cut (sending_of T) }
