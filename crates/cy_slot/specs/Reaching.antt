-- For whom a step is meant, and what it then does.
use Rattle.std.specs.Prelude.{◌≡◌, ℕ, Bool, true, false, ◌&&◌, ◌==◌, List, [], Option, Some, None, is_some, if◌then◌else◌}
use Rattle.cy_event.specs.declared.limits.Limits.{Limits}
use Rattle.cy_event.specs.declared.steps.Reply.{Reply}
use Rattle.cy_event.specs.declared.steps.Reply.TheVariants as reply
use Rattle.cy_proc.specs.LineChanges.{is_due, room_of}
use Rattle.cy_proc.specs.Processors.{is_free_at, is_open_at}
use Rattle.cy_slot.specs.declared.conn.Conn.{Conn}
use Rattle.cy_slot.specs.declared.slot.Bound.{Bound}
use Rattle.cy_slot.specs.declared.slot.Bound.TheVariants as bound
use Rattle.cy_slot.specs.declared.slot.TheConstants.{GREATEST_TENANCY}
use Rattle.cy_slot.specs.Slots.{SlotParts, line_in}

-- a step but `open` takes effect: he sits there under this number, and his request is open
abbrev pub reaches : ℕ → SlotParts → Bool
reaches tenancy s = is_some s.tenant && (s.tenancy == tenancy) && is_open_at s.processor.stage

abbrev pub has_head_due : Limits → Option Conn → Bool
has_head_due limits None = false
has_head_due limits (Some conn) = is_due limits conn.line

-- `open` takes effect: it didn't yet in this tenancy, and a head is due
abbrev pub may_open : ℕ → SlotParts → Bool
may_open tenancy s = (s.tenancy == tenancy) && is_free_at s.processor.stage && has_head_due s.processor.limits s.tenant

abbrev pub open_reply : ℕ → SlotParts → Reply
open_reply tenancy s = if may_open tenancy s then reply.Done else reply.Ended

-- ---- binding

abbrev pub bound_at : Option Conn → Bool → ℕ → Conn → Bound
bound_at (Some other) worn tenancy conn = bound.Occupied tenancy conn
bound_at None true tenancy conn = bound.Worn conn
bound_at None false tenancy conn = bound.Bound tenancy

abbrev pub bound_by : Conn → SlotParts → Bound
bound_by conn s = bound_at s.tenant (s.tenancy == GREATEST_TENANCY) s.tenancy conn

abbrev pub tenant_after : Option Conn → Bool → Conn → Option Conn
tenant_after (Some other) worn conn = Some other
tenant_after None true conn = None
tenant_after None false conn = Some conn

abbrev pub after_bind : Conn → SlotParts → SlotParts
after_bind conn s = record s { tenant = tenant_after s.tenant (s.tenancy == GREATEST_TENANCY) conn }

-- ---- what a step leaves

-- who a connection is
pub record Who : Type 0 where
  pub share : ℕ
  pub number : ℕ

abbrev pub who_is : Option Conn → Option Who
who_is None = None
who_is (Some conn) = Some (record { share = conn.share; number = conn.number })

-- The tenant is who he was. Beside his line and his request nothing changes.
pub record KeepsAllElse (old new : SlotParts) : Type 0 where
  pub who : who_is new.tenant ≡ who_is old.tenant
  pub limits : new.processor.limits ≡ old.processor.limits
  pub same : new ≡ record old { tenant = new.tenant; processor = new.processor }

-- ---- what is lent

abbrev pub lent_by : {X : Type 0} → Bool → X → X → X
lent_by reached own before = if reached then own else before

abbrev pub room_in : ℕ → SlotParts → ℕ
room_in tenancy s = if reaches tenancy s then room_of (line_in s) else 0

abbrev pub unsent_in : ℕ → SlotParts → List ℕ
unsent_in tenancy s = if reaches tenancy s then (line_in s).unsent else []
