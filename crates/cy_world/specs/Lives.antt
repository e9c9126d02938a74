-- What it means that a connection goes on rightly, for each trace that it stood for.
use Rattle.std.specs.Prelude.{◌≡◌, ◌≤◌, ℕ, Bool, true, false, List, length, Some}
use Rattle.cy_event.specs.declared.limits.Limits.{Limits}
use Rattle.cy_event.specs.declared.steps.Event.{Event}
use Rattle.cy_event.specs.declared.steps.Reply.{Reply}
use Rattle.cy_event.specs.declared.steps.Reply.TheVariants as reply
use Rattle.cy_map.specs.declared.rule.Rule.{Rule}
use Rattle.cy_model.specs.Entries.{Entry, after_turn, callback_reply, on_act, on_event, reply_to_event, rested_callback, rested_event, turn_reply}
use Rattle.cy_model.specs.Marks.{Trace}
use Rattle.cy_model.specs.Replies.{Replied, plain, replied_in}
use Rattle.cy_model.specs.Settling.{rested, settled, taken_up}
use Rattle.cy_proc.specs.LineChanges.{work_of}
use Rattle.cy_proc.specs.Processors.{is_over_at}
use Rattle.cy_world.specs.Places.{LiveParts, Lives}

-- a trace after each trace that the parts stood for
abbrev pub LivesAfter : (Trace → Trace) → LiveParts → LiveParts → Type 0
LivesAfter next old new = (T : Trace) → Lives T old → Lives (next T) new

-- a head that was due in the trace is taken up or refused, and the connection rests
pub record TakesOne (rules : List Rule) (limits : Limits) (m : ℕ) (T : Trace) (new : LiveParts) : Type 0 where
  pub trace : Trace
  pub taken : taken_up limits rules m T ≡ Some trace
  pub lives : Lives (rested limits m trace) new

abbrev pub RestsEach : LiveParts → LiveParts → Type 0
RestsEach old new = LivesAfter (rested old.limits old.line.moment) old new

abbrev pub SettlesEach : List Rule → LiveParts → LiveParts → Type 0
SettlesEach rules old new = LivesAfter (settled old.limits rules old.line.moment) old new

-- the reply is the wanted one, and the parts stand for the trace that follows
pub record AnswersLive (wanted : Replied) (after : Trace) (r : Replied) (p : LiveParts) : Type 0 where
  pub reply : r ≡ wanted
  pub lives : Lives after p

abbrev pub LivesAfterEvent : Event → List ℕ → LiveParts → Reply → LiveParts → Type 0
LivesAfterEvent e b old r new =
    (T : Trace) → Lives T old
    → AnswersLive (plain (reply_to_event T e b)) (rested_event old.limits old.line.moment T e b) (plain r) new

-- what an entry is answered at once; a turn of a worker does nothing at once
abbrev pub told_reply : Limits → Trace → Entry → Replied
told_reply limits T (on_event e b) = plain (reply_to_event T e b)
told_reply limits T (on_act a b) = callback_reply limits T a
told_reply limits T e = plain reply.Idle

-- and what it leaves, before a head is taken up
abbrev pub told_trace : Limits → ℕ → Trace → Entry → Trace
told_trace limits t T (on_event e b) = rested_event limits t T e b
told_trace limits t T (on_act a b) = rested_callback limits t T a b
told_trace limits t T e = T

-- with the bytes that it hands over in a buffer
abbrev pub LivesAfterTelling : Entry → LiveParts → Reply → List ℕ → LiveParts → Type 0
LivesAfterTelling e old r into new =
    (T : Trace) → Lives T old
    → AnswersLive (told_reply old.limits T e) (told_trace old.limits old.line.moment T e) (replied_in r into) new

-- how many bytes of what waits were written before what follows
abbrev pub first_of : Entry → LiveParts → LiveParts → ℕ
first_of (on_event e b) old new = length new.line.unsent
first_of e old new = length old.line.unsent

-- what follows is answered as before, but that a worker is told which callback begins
abbrev pub followed_reply : Bool → Reply → Trace → Trace → Replied
followed_reply true told T S = turn_reply T S
followed_reply false told T S = plain told

abbrev pub followed_trace : Bool → ℕ → Trace → Trace → Trace
followed_trace true t T S = after_turn t T S
followed_trace false t T S = S

-- by whether it follows a turn of a worker
abbrev pub LivesAfterFollowing : List Rule → Bool → Reply → LiveParts → Reply → LiveParts → Type 0
LivesAfterFollowing rules turn told old r new =
    (T : Trace) → Lives T old
    → let S = settled old.limits rules old.line.moment T in
    AnswersLive (followed_reply turn told T S) (followed_trace turn old.line.moment T S) (plain r) new

-- one head was taken up or refused
abbrev pub SettlesOne : List Rule → LiveParts → LiveParts → Type 0
SettlesOne rules old new = (T : Trace) → Lives T old → TakesOne rules old.limits old.line.moment T new

-- limits and moment are as they were, and no chart waits to be kept where none did
pub record KeepsEach (old new : LiveParts) : Type 0 where
  pub limits : new.limits ≡ old.limits
  pub moment : new.line.moment ≡ old.line.moment
  pub kept : is_over_at old.processor.stage ≡ false → is_over_at new.processor.stage ≡ false

-- resting leaves no more to do, and the moment
pub record LeavesNoMoreWork (old new : LiveParts) : Type 0 where
  pub work : work_of new.line ≤ work_of old.line
  pub moment : new.line.moment ≡ old.line.moment
