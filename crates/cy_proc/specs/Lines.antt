-- What is kept of a connection outside of its request, and which traces that stands for.
use Rattle.std.specs.Prelude.{◌≡◌, ◌≤◌, ℕ, ◌+◌, Bool, true, false, List, All, Option, None, Some, length}
use Rattle.cy_event.specs.declared.steps.CloseCause.{CloseCause}
use Rattle.cy_event.specs.Answers.{continue_text}
use Rattle.cy_model.specs.Folds.{begun_count, bytes_of, cause_of, has_ended, is_open}
use Rattle.cy_model.specs.Endings.{is_bad_request}
use Rattle.cy_model.specs.Inputs.{has_bad_body, has_whole_body, unread}
use Rattle.cy_model.specs.Outputs.{took, unsent, writing}
use Rattle.cy_model.specs.Marks.{Mark, Trace}
use Rattle.cy_model.specs.Settling.{begin_bound}
use Rattle.cy_model.specs.Unbuilt.{NothingUnbuilt}
use Rattle.cy_in.specs.Intakes.{Intake}
use Rattle.cy_proc.specs.LineBodies.{IsSoundInput, intake_of}

pub record LineParts : Type 0 where
  -- the bytes that wait, how far the body of the last request came in them, how many came in all, and how many requests
  -- were begun
  pub unread : List ℕ
  pub body : Intake
  pub came : ℕ
  pub begun : ℕ
  -- what waits for the socket
  pub unsent : List ℕ
  -- whether a request is open, why the connection closes, whether its input has ended
  pub is_open : Bool
  pub cause : Option CloseCause
  pub has_ended : Bool
  -- the moment of the last entry
  pub moment : ℕ

-- the parts that a trace leaves at a moment
abbrev pub line_parts : ℕ → Trace → LineParts
line_parts moment T = record {
  unread = unread T;
  body = intake_of T;
  came = length (bytes_of T);
  begun = begun_count T;
  unsent = unsent T;
  is_open = is_open T;
  cause = cause_of T;
  has_ended = has_ended T;
  moment = moment;
}

-- as many bytes may wait for the socket while a request is open: those that waited as it began, and `100 Continue`
abbrev pub open_bound : ℕ
open_bound = begin_bound + length continue_text

-- a cause that an open request may have: its body is bad or cut off
abbrev pub is_body_cause : Option CloseCause → Bool
is_body_cause None = true
is_body_cause (Some k) = is_bad_request (Some k)

-- nothing of the body, or of the end of the input inside it, is still to be made a cause
pub record IsAtRest (T : Trace) : Type 0 where
  pub good : has_bad_body T ≡ false
  pub goes_on : has_ended T ≡ true → has_whole_body T ≡ true

-- the heads stand in the bytes that came, the socket took what no longer waits, no mark stands that isn't built, and an
-- open request has no cause to close but its body
pub record IsSound (T : Trace) : Type 0 where
  pub input : IsSoundInput T
  pub took_past : took T ≡ length (writing T).past
  pub built : NothingUnbuilt T
  pub calm : is_open T ≡ true → is_body_cause (cause_of T) ≡ true

-- no mark is later than this moment
abbrev pub NoneLater : ℕ → Trace → Type 0
NoneLater moment T = All (λ (m : ℕ × Mark). m.0 ≤ moment) T

-- the parts stand for the trace
pub record Represents (T : Trace) (l : LineParts) : Type 0 where
  pub same : l ≡ line_parts l.moment T
  pub sound : IsSound T
  pub none_later : NoneLater l.moment T
  -- while a request is open
  pub at_rest : is_open T ≡ true → cause_of T ≡ None → IsAtRest T
