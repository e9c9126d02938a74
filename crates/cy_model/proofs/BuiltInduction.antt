-- What each thing that happens keeps, in traces in which nothing unbuilt stands.
use Rattle.std.proofs.Common.{◌≡◌, ◌≤◌, ◌-◌, ℕ, Bool, true, false, List, [], ◌∷◌, length, Some, None}
use Rattle.cy_event.specs.Answers.{content_buffer}
use Rattle.cy_event.specs.declared.limits.Limits.{Limits}
use Rattle.cy_event.specs.declared.steps.Call.TheVariants as call
use Rattle.cy_event.specs.declared.steps.CloseCause.{CloseCause}
use Rattle.cy_event.specs.declared.steps.CloseCause.TheVariants.{InputEnd, Refused}
use Rattle.cy_event.specs.declared.steps.Event.TheVariants as event
use Rattle.cy_event.specs.declared.steps.Job.{Job}
use Rattle.cy_event.specs.declared.steps.State.TheVariants as state
use Rattle.cy_map.specs.declared.rule.Rule.{Rule}
use Rattle.cy_model.specs.Endings.{end_marks, hears_fault, server_error}
use Rattle.cy_model.specs.Entries.{Entry, is_closed_to, job_marks, return_marks, trace_of}
use Rattle.cy_model.specs.Folds.{running}
use Rattle.cy_model.specs.Jobs.{next_job}
use Rattle.cy_model.specs.Marks.{opened, ended, end_given, came, given, sent, began, refused, called, put, error_answer, aborted, caused, TakenUp, Trace}
use Rattle.cy_model.specs.Outputs.{answer_of}
use Rattle.cy_model.specs.Settling.{due_of, may_begin, not_found, refusal, request, with_marks}
use Rattle.cy_model.proofs.BuiltKept.{IsBuilt, built_kept, nothing_built}
use Rattle.cy_model.proofs.Moves.{IsCauseMove, IsEndMove}
use Rattle.cy_model.proofs.TraceInduction.{IsKept, IsQuietIn, IsTakenAt, MayGive, MayTellEnd, not_found_marks, trace_keeps, went_on}

-- the marks of each thing that happens keep this
pub record IsKeptWhereBuilt (limits : Limits) (rules : List Rule) (P : Trace → Type 0) : Type 0 where
  pub opens : (t : ℕ) (T : Trace) → IsBuilt T → P T → P ((t, opened) ∷ T)
  pub ends : (t : ℕ) (T : Trace) → IsBuilt T → P T → P ((t, ended) ∷ T)
  pub comes : (t : ℕ) (b : List ℕ) (T : Trace) → is_closed_to event.In T ≡ false → IsBuilt T → P T → P ((t, came b) ∷ T)
  pub sends : (t n : ℕ) (T : Trace) → IsBuilt T → P T → P ((t, sent n) ∷ T)
  -- a body, or the end of the input inside it, is a cause to close, and an open request may hear of it
  pub causes : (t : ℕ) (k : CloseCause) (T : Trace) → IsCauseMove limits k T → IsBuilt T → P T → P ((t, caused k) ∷ T)
  pub faults : (t : ℕ) (k : CloseCause) (T : Trace) → IsCauseMove limits k T → hears_fault T ≡ true → IsBuilt T → P T
      → P ((t, called call.Fault None) ∷ (t, caused k) ∷ T)
  -- the container returns
  pub times_out : (t : ℕ) (T : Trace) → IsQuietIn state.TimingOut T → IsBuilt T → P T → P (went_on t T)
  pub fails : (t : ℕ) (T : Trace) → IsQuietIn state.Error T → IsBuilt T → P T → P ((t, error_answer server_error) ∷ went_on t T)
  pub breaks_off : (t : ℕ) (T : Trace) → IsQuietIn state.Error T → IsBuilt T → P T → P ((t, aborted) ∷ went_on t T)
  pub completes : (t : ℕ) (T : Trace) → IsQuietIn state.Completing T → IsBuilt T → P T → P (with_marks t (end_marks T) (went_on t T))
  -- heads, and the end of the input where one is awaited
  pub input_ends : (t : ℕ) (T : Trace) → IsEndMove limits T → IsBuilt T → P T → P ((t, caused InputEnd) ∷ T)
  pub refuses : (t status : ℕ) (to_head : Bool) (T : Trace) → may_begin T ≡ true → due_of limits rules T ≡ refusal status to_head → IsBuilt T → P T
      → P ((t, caused Refused) ∷ (t, refused status to_head) ∷ T)
  pub finds_none : (t : ℕ) (r : TakenUp) (T : Trace) → may_begin T ≡ true → IsTakenAt limits r T → due_of limits rules T ≡ not_found r → IsBuilt T → P T
      → P (with_marks t (not_found_marks r) T)
  pub begins : (t : ℕ) (r : TakenUp) (T : Trace) → may_begin T ≡ true → IsTakenAt limits r T → due_of limits rules T ≡ request r → IsBuilt T → P T
      → P ((t, began r) ∷ T)
  -- callbacks
  pub serves : (t : ℕ) (j : Job) (T : Trace) → next_job T ≡ Some j → IsBuilt T → P T → P (with_marks t (job_marks (Some j)) T)
  -- content is delivered, or its end is told
  pub gives : (t : ℕ) (j : Job) (n : ℕ) (T : Trace) → running T ≡ Some j → MayGive n T → IsBuilt T → P T → P ((t, given n) ∷ T)
  pub tells_end : (t : ℕ) (j : Job) (T : Trace) → running T ≡ Some j → MayTellEnd T → IsBuilt T → P T → P ((t, end_given) ∷ T)
  -- as much content as the buffer has room for
  pub puts : (t : ℕ) (j : Job) (b : List ℕ) (T : Trace) → running T ≡ Some j → length b ≤ content_buffer - length (answer_of T).content → IsBuilt T → P T → P ((t, put b) ∷ T)
  pub returns : (t : ℕ) (j : Job) (T : Trace) → running T ≡ Some j → IsBuilt T → P T → P (with_marks t (return_marks T) T)

-- so it is kept together with what is known of such traces
pub built_too : (limits : Limits) (rules : List Rule) (P : Trace → Type 0) → IsKeptWhereBuilt limits rules P → IsKept limits rules (λ T. IsBuilt T × P T)
built_too limits rules P k = let b = built_kept limits rules in record {
  opens = λ t T p. (b.opens t T p.0, k.opens t T p.0 p.1);
  ends = λ t T p. (b.ends t T p.0, k.ends t T p.0 p.1);
  comes = λ t x T taken p. (b.comes t x T taken p.0, k.comes t x T taken p.0 p.1);
  sends = λ t n T p. (b.sends t n T p.0, k.sends t n T p.0 p.1);
  causes = λ t c T m p. (b.causes t c T m p.0, k.causes t c T m p.0 p.1);
  faults = λ t c T m hears p. (b.faults t c T m hears p.0, k.faults t c T m hears p.0 p.1);
  times_out = λ t T q p. (b.times_out t T q p.0, k.times_out t T q p.0 p.1);
  fails = λ t T q p. (b.fails t T q p.0, k.fails t T q p.0 p.1);
  breaks_off = λ t T q p. (b.breaks_off t T q p.0, k.breaks_off t T q p.0 p.1);
  completes = λ t T q p. (b.completes t T q p.0, k.completes t T q p.0 p.1);
  input_ends = λ t T end p. (b.input_ends t T end p.0, k.input_ends t T end p.0 p.1);
  refuses = λ t status to_head T may due p. (b.refuses t status to_head T may due p.0, k.refuses t status to_head T may due p.0 p.1);
  finds_none = λ t r T may at due p. (b.finds_none t r T may at due p.0, k.finds_none t r T may at due p.0 p.1);
  begins = λ t r T may at due p. (b.begins t r T may at due p.0, k.begins t r T may at due p.0 p.1);
  serves = λ t j T e p. (b.serves t j T e p.0, k.serves t j T e p.0 p.1);
  gives = λ t j n T e may p. (b.gives t j n T e may p.0, k.gives t j n T e may p.0 p.1);
  tells_end = λ t j T e may p. (b.tells_end t j T e may p.0, k.tells_end t j T e may p.0 p.1);
  puts = λ t j x T e few p. (b.puts t j x T e few p.0, k.puts t j x T e few p.0 p.1);
  returns = λ t j T e p. (b.returns t j T e p.0, k.returns t j T e p.0 p.1);
}

pub built_trace_keeps : (limits : Limits) (rules : List Rule) (P : Trace → Type 0) → IsKeptWhereBuilt limits rules P → P [] → (entries : List (ℕ × Entry))
    → IsBuilt (trace_of limits rules entries) × P (trace_of limits rules entries)
built_trace_keeps limits rules P k start entries =
    trace_keeps (λ T. IsBuilt T × P T) limits rules (built_too limits rules P k) (nothing_built, start) entries
