-- What a connector tells of its connections, which is what the definitions tell of their traces.
use Rattle.std.specs.Prelude.{◌≡◌, ℕ, Bool, true, false, List, length, slice_get, Option, Some, option_map}
use Rattle.cy_event.specs.declared.steps.Step.{Step}
use Rattle.cy_event.specs.declared.steps.Step.TheVariants as step
use Rattle.cy_model.specs.Connections.{own_entries}
use Rattle.cy_model.specs.Entries.{ended_count, trace_of}
use Rattle.cy_model.specs.Folds.{cause_of, charts}
use Rattle.cy_model.specs.Marks.{Trace}
use Rattle.cy_model.specs.Outputs.{took}
use Rattle.cy_model.specs.Replies.{Replied as AnyReplied}
use Rattle.cy_slot.specs.Reaching.{Who, who_is}
use Rattle.cy_slot.specs.Slots.{SlotParts}
use Rattle.cy_world.specs.Answered.{Keeps, Parts, SeatParts}
use Rattle.cy_world.specs.Worlds.{WorldParts}
use Rattle.cy_world.specs.declared.seat.Tally.{Tally}
use Rattle.cy_world.specs.declared.terms.Terms.{Terms}
use Rattle.cy_world.specs.declared.world.Replied.{Replied}

-- a reply with the bytes beside it
abbrev pub replied : Replied → AnyReplied
replied r = record { reply = r.reply; got = r.got }

-- what the definitions tell of the connection of this number, if it was admitted
abbrev pub told_of : {X : Type 0} → (Trace → X) → WorldParts → List Step → ℕ → Option X
told_of f p w c = option_map (λ entries. f (trace_of p.terms.limits p.terms.rules entries)) (own_entries p.terms.limits p.terms.rules w c)

-- how many requests were taken up
abbrev pub request_count : Trace → ℕ
request_count T = length (charts T)

-- a connection in numbers
abbrev pub tally_of : Trace → Tally
tally_of T = record { cause = cause_of T; took = took T; requests = request_count T; ended = ended_count T }

-- for each trace that the parts stand for, whatever the terms
abbrev pub TalliesEach : Parts → Tally → Type 0
TalliesEach p t = (s : Terms) (T : Trace) → Keeps s T p → t ≡ tally_of T

-- ---- slots

-- the slot of this number
abbrev pub slot_at : ℕ → WorldParts → Option SlotParts
slot_at i p = option_map (λ (seat : SeatParts). seat.place.slot) (slice_get p.seats i)

-- the connection of this number sits in that slot
abbrev pub SitsIn : ℕ → ℕ → WorldParts → Type 0
SitsIn c i p = option_map (λ (slot : SlotParts). who_is slot.tenant) (slot_at i p) ≡ Some (Some (record { share = i; number = c }))

-- the place of this number is held for him
abbrev pub IsHeldFor : Who → ℕ → WorldParts → Type 0
IsHeldFor who i p = option_map (λ (seat : SeatParts). seat.place.who) (slice_get p.seats i) ≡ Some (Some who)

-- ---- lists of steps

-- no step of the clock can be taken so far
abbrev pub is_clock : Step → Bool
is_clock (step.At t) = true
is_clock s = false
