-- A slot, seen from outside: who sits in it, what its processor keeps, and the number of the tenant.
use Rattle.std.specs.Prelude.{◌≡◌, ◌<◌, ◌+◌, ℕ, true, false, List, [], replicate, Option, Some, None}
use Rattle.cy_event.specs.declared.limits.Limits.{Limits}
use Rattle.cy_event.specs.declared.framing.Framing.TheVariants as framing
use Rattle.cy_event.specs.declared.steps.CloseCause.{CloseCause}
use Rattle.cy_event.specs.declared.steps.Job.{Job}
use Rattle.cy_in.specs.Intakes.{started}
use Rattle.cy_proc.specs.Lines.{LineParts}
use Rattle.cy_proc.specs.ProcessorChanges.{job_at}
use Rattle.cy_proc.specs.Processors.{ProcessorParts, fresh_processor, is_free_at, is_open_at}
use Rattle.cy_slot.specs.declared.conn.Conn.{Conn}
use Rattle.cy_slot.specs.declared.slot.TheConstants.{GREATEST_TENANCY, STATE_BYTES}

pub record SlotParts : Type 0 where
  -- the connection that sits there, and what is kept of its request
  pub tenant : Option Conn
  pub processor : ProcessorParts
  -- what the component keeps for its request
  pub state : List ℕ
  -- the number of the tenant, or of the next one, and that of the first
  pub tenancy : ℕ
  pub first : ℕ

-- the state bytes of a request for which nothing was kept
abbrev pub no_state : List ℕ
no_state = replicate STATE_BYTES 0

-- a slot that nobody has used
abbrev pub fresh_slot : Limits → ℕ → SlotParts
fresh_slot limits first = record {
  tenant = None;
  processor = fresh_processor limits;
  state = no_state;
  tenancy = first;
  first = first;
}

-- a slot that was used and released is a fresh one, but for the number of the next tenant
abbrev pub released : SlotParts → SlotParts
released s = record (fresh_slot s.processor.limits s.first) { tenancy = s.tenancy + 1 }

abbrev pub with_state : List ℕ → SlotParts → SlotParts
with_state b s = record s { state = b }

-- ---- the line of who sits there

-- stands in place of a line where nobody sits
abbrev pub blank_line : LineParts
blank_line = record { unread = []; body = started framing.None; came = 0; begun = 0; unsent = []; is_open = false; cause = None; has_ended = false; moment = 0 }

abbrev pub line_of : Option Conn → LineParts
line_of None = blank_line
line_of (Some conn) = conn.line

abbrev pub line_in : SlotParts → LineParts
line_in s = line_of s.tenant

abbrev pub cause_of_tenant : Option Conn → Option CloseCause
cause_of_tenant None = None
cause_of_tenant (Some conn) = conn.line.cause

abbrev pub cause_in : SlotParts → Option CloseCause
cause_in s = cause_of_tenant s.tenant

abbrev pub job_of : Option Conn → ProcessorParts → Option Job
job_of None p = None
job_of (Some conn) p = job_at p

abbrev pub job_in : SlotParts → Option Job
job_in s = job_of s.tenant s.processor

-- ---- what holds of every slot

-- Where nobody sits, nothing is kept. Who sits there has a number below the greatest; the line knows of his open
-- request, and before his head is opened nothing is kept of one.
abbrev pub IsHeld : Option Conn → ProcessorParts → List ℕ → ℕ → Type 0
IsHeld None p state tenancy = (p ≡ fresh_processor p.limits) × (state ≡ no_state)
IsHeld (Some conn) p state tenancy =
    (tenancy < GREATEST_TENANCY) × (is_open_at p.stage ≡ true → conn.line.is_open ≡ true)
    × (is_free_at p.stage ≡ true → p ≡ fresh_processor p.limits)
