-- What it means that a line answered rightly.
use Rattle.std.specs.Prelude.{◌≡◌, ℕ, List}
use Rattle.cy_event.specs.declared.limits.Limits.{Limits}
use Rattle.cy_event.specs.declared.steps.Event.{Event}
use Rattle.cy_event.specs.declared.steps.Reply.{Reply}
use Rattle.cy_model.specs.Entries.{reply_to_event, rested_event}
use Rattle.cy_model.specs.Marks.{Trace}
use Rattle.cy_model.specs.Settling.{rested}
use Rattle.cy_proc.specs.Lines.{LineParts, Represents}

-- the reply to an event is the definition's, and the parts stand for the trace with it, rested
pub record AnswersEvent (limits : Limits) (t : ℕ) (e : Event) (b : List ℕ) (T : Trace) (r : Reply) (l : LineParts) : Type 0 where
  pub reply : r ≡ reply_to_event T e b
  pub stands : Represents (rested_event limits t T e b) l

-- for each trace that the parts stood for
abbrev pub AnswersEachEvent : Limits → ℕ → Event → List ℕ → LineParts → Reply → LineParts → Type 0
AnswersEachEvent limits t e b old r new = (T : Trace) → Represents T old → AnswersEvent limits t e b T r new

-- the parts stand for each trace that they stood for, rested
abbrev pub RestsEach : Limits → ℕ → LineParts → LineParts → Type 0
RestsEach limits t old new = (T : Trace) → Represents T old → Represents (rested limits t T) new
