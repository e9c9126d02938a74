-- What is kept of a trace, as one record: the folds that read marks one by one.
use Rattle.std.specs.Prelude.{ℕ, Bool, List, Option}
use Rattle.cy_event.specs.declared.steps.Call.{Call}
use Rattle.cy_event.specs.declared.steps.CloseCause.{CloseCause}
use Rattle.cy_event.specs.declared.steps.Job.{Job}
use Rattle.cy_event.specs.declared.steps.State.{State}
use Rattle.cy_event.specs.Answers.{Answer}
use Rattle.cy_event.specs.Callbacks.{Context}
use Rattle.cy_event.specs.ReadyListeners.{ReadyListeners}
use Rattle.cy_model.specs.Folds.{Parked, begun_count, bytes_of, callback_of, calls, cause_of, closing_since, context_of, ended_charts, has_ended, idle_since, is_broken, is_open, is_refused, is_served, last_taken, parked_callback, part_of, ready_listeners, request_of, requests_of, running, state_of}
use Rattle.cy_model.specs.Inputs.{given_count, is_end_told, used_at_end}
use Rattle.cy_model.specs.Marks.{TakenUp, Trace}
use Rattle.cy_model.specs.Outputs.{Writing, answer_of, is_aborted, took, writing}

pub record Kept : Type 0 where
  -- of the connection
  pub bytes : List ℕ
  pub begun : ℕ
  pub requests : List TakenUp
  pub last : Option TakenUp
  pub has_ended : Bool
  pub cause : Option CloseCause
  pub is_broken : Bool
  pub idle_since : ℕ
  pub closing_since : ℕ
  pub ended_charts : List (List Call)
  pub took : ℕ
  pub writing : Writing
  -- of its last request
  pub is_open : Bool
  pub is_refused : Bool
  pub request : Option TakenUp
  pub part : ℕ
  pub callback : Option Job
  pub running : Option Job
  pub parked : Option Parked
  pub is_served : Bool
  pub calls : List Call
  pub state : State
  pub listeners : ReadyListeners
  pub context : Context
  pub given : ℕ
  pub is_end_told : Bool
  pub used_at_end : ℕ
  pub answer : Answer
  pub is_aborted : Bool

abbrev pub kept : Trace → Kept
kept T = record {
  bytes = bytes_of T;
  begun = begun_count T;
  requests = requests_of T;
  last = last_taken T;
  has_ended = has_ended T;
  cause = cause_of T;
  is_broken = is_broken T;
  idle_since = idle_since T;
  closing_since = closing_since T;
  ended_charts = ended_charts T;
  took = took T;
  writing = writing T;
  is_open = is_open T;
  is_refused = is_refused T;
  request = request_of T;
  part = part_of T;
  callback = callback_of T;
  running = running T;
  parked = parked_callback T;
  is_served = is_served T;
  calls = calls T;
  state = state_of T;
  listeners = ready_listeners T;
  context = context_of T;
  given = given_count T;
  is_end_told = is_end_told T;
  used_at_end = used_at_end T;
  answer = answer_of T;
  is_aborted = is_aborted T;
}
