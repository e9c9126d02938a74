-- Which lists of steps a connector stands for.
use Rattle.std.specs.Prelude.{◌≡◌, ◌≢◌, ℕ, Bool, true, false, if◌then◌else◌, List, [], ◌∷◌, length, MatchBool, Option, Some, None, is_some, slice_get}
use Rattle.std.specs.BTreeMap.{is_at}
use Rattle.std.specs.Map.{lookup}
use Rattle.std.specs.Ordering.{nat_cmp}
use Rattle.cy_event.specs.declared.steps.Step.{Step}
use Rattle.cy_event.specs.declared.steps.Step.TheVariants as step
use Rattle.cy_latch.specs.Numbers.{after_leave, count_out, is_out}
use Rattle.cy_model.specs.Connections.{History, connections, counted, find_own, kind_of, moment, reply_by}
use Rattle.cy_model.specs.Entries.{Entry, trace_of}
use Rattle.cy_model.specs.Marks.{Trace}
use Rattle.cy_model.specs.Outputs.{is_gone}
use Rattle.cy_model.specs.Replies.{Replied}
use Rattle.cy_model.specs.Steps.{IsWithinBytes}
use Rattle.cy_proc.specs.Processors.{is_over_at}
use Rattle.cy_slot.specs.Reaching.{Who}
use Rattle.cy_world.specs.Answered.{IsSameButRooms, IsVacant, Keeps, SeatParts, Tells, TellsEach, seat_parts, start}
use Rattle.cy_world.specs.Counts.{AddUp}
use Rattle.cy_world.specs.Places.{IsInItsSlot, Lives, visits_of}
use Rattle.cy_world.specs.declared.seat.Account.{Account}
use Rattle.cy_world.specs.declared.terms.Terms.{Terms}
use Rattle.cy_world.specs.declared.world.Admitted.{Admitted}
use Rattle.cy_world.specs.declared.world.Admitted.TheVariants.{Seated, Gone}

pub record WorldParts : Type 0 where
  pub terms : Terms
  -- which shares are out, and the place of each
  pub latch : List Bool
  pub seats : List SeatParts
  -- where each connection is that was admitted, by its number
  pub book : List (ℕ × Admitted)

abbrev pub find_in : ℕ → List (ℕ × Admitted) → Option Admitted
find_in c book = lookup (is_at (nat_cmp c)) book

-- ---- one connection

-- a place is held for the connection, and keeps what happened to it
pub record IsSeatedFor (s : Terms) (seats : List SeatParts) (c : ℕ) (T : Trace) (i : ℕ) : Type 0 where
  pub seat : SeatParts
  pub there : slice_get seats i ≡ Some seat
  pub who : seat.place.who ≡ Some (record { share = i; number = c })
  pub keeps : Keeps s T (seat_parts seat)

-- the connection is gone, and what is kept is what it came to
pub record IsGoneAs (T : Trace) (a : Account) : Type 0 where
  pub gone : is_gone T ≡ true
  pub tells : Tells T a

abbrev pub StandsForAdmitted : Terms → List SeatParts → ℕ → Trace → Admitted → Type 0
StandsForAdmitted s seats c T (Seated i) = IsSeatedFor s seats c T i × (is_gone T ≡ false)
StandsForAdmitted s seats c T (Gone a) = IsGoneAs T a

-- what the book says of a number, whatever it is
abbrev pub StandsForOne : Terms → List SeatParts → ℕ → Option (List (ℕ × Entry)) → Option Admitted → Type 0
StandsForOne s seats c None None = Unit {0}
StandsForOne s seats c None (Some a) = ⊥
StandsForOne s seats c (Some entries) None = ⊥
StandsForOne s seats c (Some entries) (Some a) = StandsForAdmitted s seats c (trace_of s.limits s.rules entries) a

-- ---- the places

-- a place is held exactly while the share of its number is out
pub record IsPlaceOf (s : Terms) (i : ℕ) (out : Bool) (seat : SeatParts) : Type 0 where
  pub held : is_some seat.place.who ≡ out
  pub share : (w : Who) → seat.place.who ≡ Some w → w.share ≡ i
  pub kept : is_over_at seat.place.live.processor.stage ≡ false
  pub slot : IsInItsSlot seat.place
  pub vacant : out ≡ false → IsVacant s.limits seat

pub record ArePlaces (p : WorldParts) : Type 0 where
  pub each : (i : ℕ) (seat : SeatParts) → slice_get p.seats i ≡ Some seat → IsPlaceOf p.terms i (is_out p.latch i) seat
  pub seats : length p.seats ≡ p.terms.limits.max_connections
  pub latch : length p.latch ≡ p.terms.limits.max_connections

-- ---- the connector

-- no two connections have one number
abbrev pub AreDistinct : List History → Type 0
AreDistinct [] = Unit {0}
AreDistinct (h ∷ hs) = (find_own h.number hs ≡ None) × AreDistinct hs

-- the connector stands for the steps, the newest first
pub record StandsFor (w : List Step) (p : WorldParts) : Type 0 where
  pub moment : moment w ≡ start
  pub distinct : AreDistinct (connections p.terms.limits p.terms.rules w)
  pub each : (c : ℕ) → StandsForOne p.terms p.seats c (find_own c (connections p.terms.limits p.terms.rules w)) (find_in c p.book)
  pub counted : count_out p.latch ≡ counted p.terms.limits p.terms.rules (connections p.terms.limits p.terms.rules w)
  pub places : ArePlaces p
  pub tenancies : AddUp p.terms p.seats (connections p.terms.limits p.terms.rules w)

abbrev pub IsWorld : WorldParts → Type 0
IsWorld p = (w : List Step) × StandsFor w p

-- A step that can be taken: it is none of the clock so far, a number is admitted once, and the bytes that an act counts
-- stand beside it.
abbrev pub CanTake : Step → WorldParts → Type 0
CanTake (step.At t) p = ⊥
CanTake (step.Admit c) p = find_in c p.book ≡ None
CanTake (step.On c e b) p = Unit {0}
CanTake (step.Run c) p = Unit {0}
CanTake (step.Act c a b) p = IsWithinBytes a b

-- a place is held for the connection of this number
abbrev pub HoldsPlace : ℕ → WorldParts → Type 0
HoldsPlace c p = (i : ℕ) × (find_in c p.book ≡ Some (Seated i))

-- Memory can be wanting for an admission where not all are counted, and for a step of a connection that has a place. What
-- is answered Full or NoConn, or Closed since the connection is gone, needs none.
abbrev pub CanWantMemory : Step → WorldParts → Type 0
CanWantMemory (step.At t) p = ⊥
CanWantMemory (step.Admit c) p = count_out p.latch ≢ length p.latch
CanWantMemory (step.On c e b) p = HoldsPlace c p
CanWantMemory (step.Run c) p = HoldsPlace c p
CanWantMemory (step.Act c a b) p = HoldsPlace c p

-- the step is an entry of the connection of this number
abbrev pub IsOwnOf : ℕ → Step → Type 0
IsOwnOf c (step.At t) = ⊥
IsOwnOf c (step.Admit d) = ⊥
IsOwnOf c (step.On d e b) = d ≡ c
IsOwnOf c (step.Run d) = d ≡ c
IsOwnOf c (step.Act d a b) = d ≡ c

-- the step is answered by the definition, and the connector stands for the steps with it
pub record TakesStep (w : List Step) (s : Step) (old : WorldParts) (r : Replied) (new : WorldParts) : Type 0 where
  pub reply : r ≡ reply_by old.terms.limits old.terms.rules (kind_of s) (moment (s ∷ w)) (connections old.terms.limits old.terms.rules w)
  pub stands : StandsFor (s ∷ w) new

-- nothing changes but that places have more room
pub record IsAsBefore (old new : WorldParts) : Type 0 where
  pub terms : new.terms ≡ old.terms
  pub latch : new.latch ≡ old.latch
  pub book : new.book ≡ old.book
  pub count : length new.seats ≡ length old.seats
  pub seats : (i : ℕ) (before after : SeatParts) → slice_get old.seats i ≡ Some before → slice_get new.seats i ≡ Some after → IsSameButRooms before after

-- ---- a connection that is gone

-- what the book says of every number, once this is put down for one
abbrev pub PutsDown : ℕ → Admitted → List (ℕ × Admitted) → List (ℕ × Admitted) → Type 0
PutsDown c a old new = (d : ℕ) → find_in d new ≡ (if is_at (nat_cmp c) d then Some a else find_in d old)

-- the place is held for nobody, its share is left, and the book keeps what the connection came to
pub record Leaves (c : ℕ) (old : SeatParts) (latch : List Bool) (book : List (ℕ × Admitted)) (new : SeatParts) (latch_after : List Bool) (book_after : List (ℕ × Admitted)) : Type 0 where
  pub account : Account
  pub tells : TellsEach (seat_parts old) account
  pub vacant : IsVacant old.place.live.limits new
  pub visits : visits_of new.place.slot ≡ visits_of old.place.slot
  pub left : (w : Who) → old.place.who ≡ Some w → latch_after ≡ after_leave latch w.share
  pub put_down : PutsDown c (Gone account) book book_after

-- nothing changes
pub record Stays (old : SeatParts) (latch : List Bool) (book : List (ℕ × Admitted)) (new : SeatParts) (latch_after : List Bool) (book_after : List (ℕ × Admitted)) : Type 0 where
  pub seat : new ≡ old
  pub counts : latch_after ≡ latch
  pub says : book_after ≡ book

-- a connection that is gone leaves, and another stays
abbrev pub Retires : ℕ → SeatParts → List Bool → List (ℕ × Admitted) → SeatParts → List Bool → List (ℕ × Admitted) → Type 0
Retires c old latch book new latch_after book_after =
    (T : Trace) → Lives T old.place.live
    → MatchBool (is_gone T) (Leaves c old latch book new latch_after book_after) (Stays old latch book new latch_after book_after)
