-- What it means that an entry of a connection was answered rightly.
use Rattle.std.specs.Prelude.{◌≡◌, ℕ, Bool, true, false, List, [], ◌∷◌, length, map, None}
use Rattle.cy_event.specs.declared.limits.Limits.{Limits}
use Rattle.cy_event.specs.declared.steps.Act.{Act}
use Rattle.cy_event.specs.declared.steps.Act.TheVariants as act
use Rattle.cy_event.specs.declared.steps.Reply.{Reply}
use Rattle.cy_event.specs.declared.steps.Step.{Step}
use Rattle.cy_event.specs.declared.steps.Step.TheVariants as step
use Rattle.cy_event.specs.Charts.{chart_of}
use Rattle.cy_model.specs.Entries.{Entry, after, on_act, on_event, on_run, reply_to}
use Rattle.cy_model.specs.Folds.{cause_of, charts}
use Rattle.cy_model.specs.Marks.{Trace, opened}
use Rattle.cy_model.specs.Outputs.{is_gone, output, took}
use Rattle.cy_model.specs.Replies.{Replied, replied_in}
use Rattle.cy_model.specs.Steps.{IsWithinBytes}
use Rattle.cy_proc.specs.Processors.{is_over_at}
use Rattle.cy_world.specs.Places.{IsInItsSlot, IsSameButRoom, LiveParts, Lives, PlaceParts}
use Rattle.cy_world.specs.declared.seat.Account.{Account}
use Rattle.cy_world.specs.declared.terms.Terms.{Terms}

-- a place, and all that was written on its connection
pub record SeatParts : Type 0 where
  pub place : PlaceParts
  pub written : List ℕ

-- what stands for a trace of it
pub record Parts : Type 0 where
  pub live : LiveParts
  pub written : List ℕ

abbrev pub parts_with : PlaceParts → List ℕ → Parts
parts_with p written = record { live = p.live; written = written }

abbrev pub seat_parts : SeatParts → Parts
seat_parts s = parts_with s.place s.written

-- the only moment so far, since no step of the clock is in the form
abbrev pub start : ℕ
start = 0

-- between two entries the parts stand for the trace
pub record Keeps (s : Terms) (T : Trace) (p : Parts) : Type 0 where
  pub lives : Lives T p.live
  pub limits : p.live.limits ≡ s.limits
  pub moment : p.live.line.moment ≡ start
  pub kept : is_over_at p.live.processor.stage ≡ false
  pub written : p.written ≡ output T

-- nobody is there, and nothing of anybody
pub record IsVacant (of_limits : Limits) (p : SeatParts) : Type 0 where
  pub nobody : p.place.who ≡ None
  pub lives : Lives ((start, opened) ∷ []) p.place.live
  pub limits : p.place.live.limits ≡ of_limits
  pub moment : p.place.live.line.moment ≡ start
  pub kept : is_over_at p.place.live.processor.stage ≡ false
  pub slot : IsInItsSlot p.place
  pub written : p.written ≡ []

-- nothing but room changes
pub record IsSameButRooms (old new : SeatParts) : Type 0 where
  pub place : IsSameButRoom old.place new.place
  pub written : new.written ≡ old.written

-- ---- entries

-- a step is an entry of a connection, and the bytes that an act counts stand beside it
abbrev pub IsOwn : Step → Type 0
IsOwn (step.At t) = ⊥
IsOwn (step.Admit c) = ⊥
IsOwn (step.On c e b) = Unit {0}
IsOwn (step.Run c) = Unit {0}
IsOwn (step.Act c a b) = IsWithinBytes a b

-- the entry that a step of a connection is
abbrev pub entry_by : Step → Entry
entry_by (step.On c e b) = on_event e b
entry_by (step.Act c a b) = on_act a b
entry_by s = on_run

abbrev pub is_turn : Step → Bool
is_turn (step.Run c) = true
is_turn s = false

abbrev pub is_act : Step → Bool
is_act (step.Act c a b) = true
is_act s = false

-- as much content as an act asks for, and a step
abbrev pub read_asked : Act → ℕ
read_asked (act.Read n) = n
read_asked a = 0

abbrev pub content_asked : Step → ℕ
content_asked (step.Act c a b) = read_asked a
content_asked s = 0

-- for how many further charts a step may need room: for one of each byte that comes, and for that of a request that an
-- act ends
abbrev pub charts_asked : Step → ℕ
charts_asked (step.On c e b) = length b
charts_asked (step.Act c a b) = 1
charts_asked s = 0

-- the reply is the definition's, and the parts stand for the trace after the entry
pub record Answers (s : Terms) (T : Trace) (e : Entry) (r : Replied) (p : Parts) : Type 0 where
  pub reply : r ≡ reply_to s.limits s.rules start T e
  pub keeps : Keeps s (after s.limits s.rules start T e) p

-- for each trace that the parts stood for, of a connection that isn't gone; beside the reply stand the bytes that it hands
-- over in a buffer
abbrev pub AnswersEach : Terms → Entry → Parts → Reply → List ℕ → Parts → Type 0
AnswersEach s e old r into new = (T : Trace) → Keeps s T old → is_gone T ≡ false → Answers s T e (replied_in r into) new

-- what is told of a connection is what its trace says
pub record Tells (T : Trace) (a : Account) : Type 0 where
  pub cause : a.cause ≡ cause_of T
  pub took : a.took ≡ took T
  pub written : a.written ≡ output T
  pub charts : a.charts.items ≡ map chart_of (charts T)

-- for each trace that the parts stood for, whatever the terms
abbrev pub TellsEach : Parts → Account → Type 0
TellsEach p a = (s : Terms) (T : Trace) → Keeps s T p → Tells T a
