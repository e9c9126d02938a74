-- What is kept of the connection of a place, and which traces that stands for.
use Rattle.std.specs.Prelude.{◌≡◌, ◌≤◌, ◌+◌, ◌-◌, ℕ, Bool, true, false, List, [], ◌∷◌, ◌++◌, length, min, Option, Some, None, is_some, if◌then◌else◌}
use Rattle.cy_event.specs.declared.steps.CloseCause.{CloseCause}
use Rattle.cy_event.specs.declared.steps.CloseCause.TheVariants.{Refused}
use Rattle.cy_event.specs.declared.head.TheConstants.{FIELD_ROOM, HEAD_ROOM}
use Rattle.cy_event.specs.declared.limits.Limits.{Limits}
use Rattle.cy_event.specs.declared.table.ChartItem.{ChartItem}
use Rattle.cy_model.specs.Marks.{Trace}
use Rattle.cy_proc.specs.LineChanges.{work_of}
use Rattle.cy_proc.specs.Lines.{LineParts}
use Rattle.cy_proc.specs.ProcessorAnswers.{Serves, ended_items}
use Rattle.cy_proc.specs.Processors.{ProcessorParts, is_free_at, is_open_at, over_charts}
use Rattle.cy_proc.specs.declared.line.Standing.{Standing}
use Rattle.cy_proc.specs.declared.line.Standing.TheVariants as standing
use Rattle.cy_rings.specs.declared.kit.TheConstants.{IN_CAPACITY}
use Rattle.cy_slot.specs.Reaching.{Who, who_is}
use Rattle.cy_slot.specs.Slots.{SlotParts, fresh_slot, line_in}
use Rattle.cy_slot.specs.declared.slot.TheConstants.{GREATEST_TENANCY}
use Rattle.cy_world.specs.declared.place.Idle.{Idle}
use Rattle.cy_world.specs.declared.place.Guest.{Guest}

-- a connection that goes on
pub record LiveParts : Type 0 where
  pub limits : Limits
  -- the line, wherever it is, and what its slot keeps
  pub line : LineParts
  pub processor : ProcessorParts
  -- the charts of the requests that have ended
  pub charts : List (List ChartItem)

pub record PlaceParts : Type 0 where
  pub live : LiveParts
  -- for whom the place is held, and its slot
  pub who : Option Who
  pub slot : SlotParts
  -- how many charts there is room for, and how many tenants its slots may still have
  pub chart_room : ℕ
  pub tenants_left : ℕ

-- ---- how a place holds them

abbrev pub guest_who : Option Guest → Option Who
guest_who None = None
guest_who (Some g) = Some (record { share = g.share; number = g.number })

-- who sits beside the slot or in it
abbrev pub who_at : Option Idle → SlotParts → Option Who
who_at (Some idle) s = guest_who idle.guest
who_at None s = who_is s.tenant

abbrev pub line_at : Option Idle → SlotParts → LineParts
line_at (Some idle) s = idle.line
line_at None s = line_in s

abbrev pub tenants_by : Option SlotParts → SlotParts → ℕ
tenants_by (Some spare) s = GREATEST_TENANCY - s.tenancy + GREATEST_TENANCY
tenants_by None s = GREATEST_TENANCY - s.tenancy

abbrev pub place_parts : Limits → SlotParts → Option SlotParts → Option Idle → List (List ChartItem) → ℕ → PlaceParts
place_parts limits slot spare idle charts room = record {
  live = record { limits = limits; line = line_at idle slot; processor = slot.processor; charts = charts };
  who = who_at idle slot;
  slot = slot;
  chart_room = room;
  tenants_left = tenants_by spare slot;
}

-- nothing is there of anybody: the slot is as one that nobody has used, but for the number of the next tenant
abbrev pub IsEmpty : Limits → SlotParts → Type 0
IsEmpty limits s = s ≡ record (fresh_slot limits 0) { tenancy = s.tenancy }

-- a slot beside which its connection is, is empty; one in which it sits was opened
abbrev pub IsSeated : Option Idle → Limits → SlotParts → Type 0
IsSeated (Some idle) limits s = IsEmpty limits s
IsSeated None limits s = (is_some s.tenant ≡ true) × (is_free_at s.processor.stage ≡ false) × (s.first ≡ 0)

abbrev pub IsFresh : Limits → Option SlotParts → Type 0
IsFresh limits None = Unit {0}
IsFresh limits (Some s) = s ≡ fresh_slot limits 0

-- ---- which traces they stand for

-- They stand for the trace. The chart of a request that is over is the processor's until it is kept.
pub record Lives (T : Trace) (p : LiveParts) : Type 0 where
  pub serves : Serves T p.line p.processor
  pub limits : p.processor.limits ≡ p.limits
  pub charts : p.charts ++ over_charts p.processor ≡ ended_items T

-- these parts stand for some trace
abbrev pub IsAlive : LiveParts → Type 0
IsAlive p = (T : Trace) × Lives T p

pub record IsPlace (limits : Limits) (slot : SlotParts) (spare : Option SlotParts) (idle : Option Idle) (charts : List (List ChartItem)) (room : ℕ) : Type 0 where
  pub head_room : limits.max_head ≤ HEAD_ROOM
  pub field_room : limits.max_fields ≤ FIELD_ROOM
  pub seated : IsSeated idle limits slot
  pub spare_fresh : IsFresh limits spare
  pub alive : IsAlive (place_parts limits slot spare idle charts room).live

-- ---- the slot of a place

-- While a request is open its connection sits in the slot; and else the slot is empty.
abbrev pub SitsWhile : Bool → PlaceParts → Type 0
SitsWhile true p = (p.live.line ≡ line_in p.slot) × (who_is p.slot.tenant ≡ p.who)
SitsWhile false p = IsEmpty p.live.limits p.slot

-- between two entries
pub record IsInItsSlot (p : PlaceParts) : Type 0 where
  pub processor : p.live.processor ≡ p.slot.processor
  pub sits : SitsWhile (is_open_at p.live.processor.stage) p
  pub first : p.slot.first ≡ 0

-- how many tenants the slot had, with the one that sits there
abbrev pub visits_of : SlotParts → ℕ
visits_of s = s.tenancy + (if is_some s.tenant then 1 else 0)

-- With a head that is refused the connection closes.
abbrev pub refusals_by : Option CloseCause → ℕ
refusals_by (Some Refused) = 1
refusals_by k = 0

-- how many heads of a connection were taken up or refused
abbrev pub heads_of : LineParts → ℕ
heads_of l = l.begun + refusals_by l.cause

-- As many tenants came as heads were taken up or refused, unless the slot was used up on the way.
pub record CountsHeads (old new : PlaceParts) : Type 0 where
  pub more : heads_of old.live.line ≤ heads_of new.live.line
  pub as_many : visits_of old.slot + heads_of new.live.line ≤ GREATEST_TENANCY + heads_of old.live.line
      → visits_of new.slot + heads_of old.live.line ≡ visits_of old.slot + heads_of new.live.line

-- ---- room

-- of so many bytes that come no more are taken than the ring holds
abbrev pub taken_at_most : ℕ → ℕ
taken_at_most bytes = min bytes IN_CAPACITY

-- there is room for the chart of each head that may be taken up, and a tenancy for it, where so many bytes come before;
-- and for one more
pub record HasRoom (bytes : ℕ) (p : PlaceParts) : Type 0 where
  pub charts : length p.live.charts + work_of p.live.line + taken_at_most bytes + 2 ≤ p.chart_room
  pub tenants : work_of p.live.line + taken_at_most bytes + 2 ≤ p.tenants_left

-- nothing but the room changes
abbrev pub IsSameButRoom : PlaceParts → PlaceParts → Type 0
IsSameButRoom old new = new ≡ record old { chart_room = new.chart_room; tenants_left = new.tenants_left }

-- the charts of all requests
abbrev pub charts_in : LiveParts → List (List ChartItem)
charts_in p = if is_open_at p.processor.stage then p.charts ++ p.processor.progress.chart ∷ [] else p.charts

-- a line stands so that a head is to be taken up or refused
abbrev pub stands_due : Standing → Bool
stands_due standing.Due = true
stands_due s = false
