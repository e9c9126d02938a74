-- What it means that a processor answered rightly, together with the line of its connection.
use Rattle.std.specs.Prelude.{◌≡◌, ◌≤◌, ℕ, Bool, true, false, List, ◌++◌, drop, length, map, Some}
use Rattle.cy_event.specs.declared.steps.Act.{Act}
use Rattle.cy_event.specs.declared.steps.Act.TheVariants as act
use Rattle.cy_event.specs.declared.steps.Event.{Event}
use Rattle.cy_event.specs.declared.steps.Reply.{Reply}
use Rattle.cy_event.specs.declared.steps.Reply.TheVariants as reply
use Rattle.cy_event.specs.declared.table.ChartItem.{ChartItem}
use Rattle.cy_event.specs.Charts.{chart_of}
use Rattle.cy_map.specs.declared.rule.Rule.{Rule}
use Rattle.cy_model.specs.Entries.{callback_reply, reply_to_event, rested_callback, rested_event, rested_turn, turn_reply}
use Rattle.cy_model.specs.Folds.{ended_charts}
use Rattle.cy_model.specs.Marks.{Trace}
use Rattle.cy_model.specs.Replies.{Replied, plain, replied_in}
use Rattle.cy_model.specs.Settling.{rested, taken_up}
use Rattle.cy_proc.specs.Lines.{LineParts, Represents}
use Rattle.cy_proc.specs.Processors.{ProcessorParts, StandsForRequest, over_charts}

-- the reply that a slot alone gives, to who isn't its tenant
abbrev pub is_ended : Reply → Bool
is_ended reply.Ended = true
is_ended r = false

-- line and processor stand for one trace
pub record Serves (T : Trace) (l : LineParts) (p : ProcessorParts) : Type 0 where
  pub line : Represents T l
  pub processor : StandsForRequest T p

-- the charts of the ended requests
abbrev pub ended_items : Trace → List (List ChartItem)
ended_items T = map chart_of (ended_charts T)

-- line and processor stand for the later of two traces; if a request has ended in between, it is this processor's
pub record ServesAfter (T R : Trace) (l : LineParts) (p : ProcessorParts) : Type 0 where
  pub serves : Serves R l p
  pub charts : ended_items R ≡ ended_items T ++ over_charts p

-- the reply is the wanted one, and line and processor stand for the trace that follows
pub record Answers (T : Trace) (wanted : Replied) (R : Trace) (r : Replied) (l : LineParts) (p : ProcessorParts) : Type 0 where
  pub reply : r ≡ wanted
  pub after : ServesAfter T R l p

-- ---- for each trace that line and processor stood for

-- a due head was taken up or refused, and the connection rested
pub record TakesUp (rules : List Rule) (T : Trace) (l : LineParts) (p : ProcessorParts) : Type 0 where
  pub trace : Trace
  pub taken : taken_up p.limits rules l.moment T ≡ Some trace
  pub after : ServesAfter T (rested p.limits l.moment trace) l p

abbrev pub TakesUpEach : List Rule → LineParts → ProcessorParts → LineParts → ProcessorParts → Type 0
TakesUpEach rules line processor l p = (T : Trace) → Serves T line processor → TakesUp rules T l p

-- the socket told something
abbrev pub AnswersEachEvent : Event → List ℕ → LineParts → ProcessorParts → Reply → LineParts → ProcessorParts → Type 0
AnswersEachEvent e b line processor r l p =
    (T : Trace) → Serves T line processor
    → Answers T (plain (reply_to_event T e b)) (rested_event p.limits l.moment T e b) (plain r) l p

-- a worker turned to the request
abbrev pub AnswersEachTurn : LineParts → ProcessorParts → Reply → LineParts → ProcessorParts → Type 0
AnswersEachTurn line processor r l p =
    (T : Trace) → Serves T line processor
    → Answers T (turn_reply T (rested p.limits l.moment T)) (rested_turn p.limits l.moment T) (plain r) l p

-- the callback acted, and was answered this with these bytes in its buffer
abbrev pub AnswersEachAct : Act → List ℕ → LineParts → ProcessorParts → Reply → List ℕ → LineParts → ProcessorParts → Type 0
AnswersEachAct a b line processor r into l p =
    (T : Trace) → Serves T line processor
    → Answers T (callback_reply p.limits T a) (rested_callback p.limits l.moment T a b) (replied_in r into) l p

-- ---- what a read gives

-- there is room for as much as a read asks
abbrev pub IsReadInto : Act → List ℕ → Type 0
IsReadInto (act.Read n) into = n ≤ length into
IsReadInto a into = Unit {0}

-- nothing is given but what a reply counts, at the front
abbrev pub GivesInto : Reply → List ℕ → List ℕ → Type 0
GivesInto (reply.Got n) old new = drop n new ≡ drop n old
GivesInto r old new = new ≡ old
