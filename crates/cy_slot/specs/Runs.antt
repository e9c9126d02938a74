-- What a slot is asked over time, and which calls may then take effect. The newest comes first.
use Rattle.std.specs.Prelude.{◌≡◌, ℕ, ◌+◌, Bool, true, false, ◌&&◌, ◌||◌, not, ◌==◌, if◌then◌else◌, List, [], ◌∷◌}
use Rattle.cy_event.specs.declared.limits.Limits.{Limits}
use Rattle.cy_proc.specs.Processors.{is_free_at, is_over_at}
use Rattle.cy_slot.specs.declared.conn.Conn.{Conn}
use Rattle.cy_slot.specs.declared.slot.Bound.{Bound}
use Rattle.cy_slot.specs.declared.slot.Bound.TheVariants as bound
use Rattle.cy_slot.specs.Slots.{SlotParts, fresh_slot, released}
use Rattle.cy_slot.specs.Reaching.{after_bind, bound_by, may_open, reaches, who_is}

-- What a call does that is meant for a tenant: nothing; or it takes effect, and behind it his request goes on, or it is
-- over.
pub data Effect : Type 0 where
  nothing : Effect
  goes_on : Effect
  ends : Effect

-- one call: a connection was to be bound, which was answered so; `open`, or another step, was called for the tenant of
-- this number and did so much; or the slot was released
pub data Turn : Type 0 where
  was_bound : Conn → Bound → Turn
  was_opened : ℕ → Effect → Turn
  was_stepped : ℕ → Effect → Turn
  was_released : Turn

abbrev pub has_effect : Effect → Bool
has_effect nothing = false
has_effect goes_on = true
has_effect ends = true

abbrev pub is_ending : Effect → Bool
is_ending nothing = false
is_ending goes_on = false
is_ending ends = true

-- what a call did that leaves these parts, where it took effect
abbrev pub effect_of : Bool → SlotParts → Effect
effect_of took new = if took then (if is_over_at new.processor.stage then ends else goes_on) else nothing

-- ---- what the calls make of a slot

-- A call for a tenant takes effect where it may, and else changes nothing. It leaves no slot as if no head had been
-- opened, and the tenant and his number stay.
pub record Affects (may : Bool) (e : Effect) (old new : SlotParts) : Type 0 where
  pub effect : e ≡ effect_of may new
  pub others : may ≡ false → new ≡ old
  pub opened : may ≡ true → is_free_at new.processor.stage ≡ false
  pub who : who_is new.tenant ≡ who_is old.tenant
  pub tenancy : new.tenancy ≡ old.tenancy
  pub first : new.first ≡ old.first

abbrev pub IsTurn : SlotParts → Turn → SlotParts → Type 0
IsTurn old (was_bound conn answer) new = (answer ≡ bound_by conn old) × (new ≡ after_bind conn old)
IsTurn old (was_opened n e) new = Affects (may_open n old) e old new
IsTurn old (was_stepped n e) new = Affects (reaches n old) e old new
IsTurn old was_released new = (is_over_at old.processor.stage ≡ true) × (new ≡ released old)

-- these calls leave this of a new slot
abbrev pub IsUse : Limits → ℕ → List Turn → SlotParts → Type 0
IsUse limits first [] slot = slot ≡ fresh_slot limits first
IsUse limits first (t ∷ before) slot = (old : SlotParts) × IsUse limits first before old × IsTurn old t slot

-- ---- what was done for the tenant of a number

abbrev pub gives : ℕ → Bound → Bool
gives n (bound.Bound m) = m == n
gives n (bound.Occupied m conn) = false
gives n (bound.Worn conn) = false

-- a connection was bound as this tenant
abbrev pub had_bind : ℕ → List Turn → Bool
had_bind n [] = false
had_bind n (was_bound conn answer ∷ before) = gives n answer || had_bind n before
had_bind n (was_opened m e ∷ before) = had_bind n before
had_bind n (was_stepped m e ∷ before) = had_bind n before
had_bind n (was_released ∷ before) = had_bind n before

-- his head was opened: an `open` for him took effect
abbrev pub had_open : ℕ → List Turn → Bool
had_open n [] = false
had_open n (was_bound conn answer ∷ before) = had_open n before
had_open n (was_opened m e ∷ before) = (has_effect e && (m == n)) || had_open n before
had_open n (was_stepped m e ∷ before) = had_open n before
had_open n (was_released ∷ before) = had_open n before

-- his request has ended, or his head was refused
abbrev pub had_end : ℕ → List Turn → Bool
had_end n [] = false
had_end n (was_bound conn answer ∷ before) = had_end n before
had_end n (was_opened m e ∷ before) = (is_ending e && (m == n)) || had_end n before
had_end n (was_stepped m e ∷ before) = (is_ending e && (m == n)) || had_end n before
had_end n (was_released ∷ before) = had_end n before

-- his request is open
abbrev pub is_live : ℕ → List Turn → Bool
is_live n turns = had_open n turns && not (had_end n turns)

abbrev pub releases : List Turn → ℕ
releases [] = 0
releases (was_bound conn answer ∷ before) = releases before
releases (was_opened m e ∷ before) = releases before
releases (was_stepped m e ∷ before) = releases before
releases (was_released ∷ before) = releases before + 1

-- the number of the tenant: the first one, and one more for each release
abbrev pub tenancy_after : ℕ → List Turn → ℕ
tenancy_after first turns = first + releases turns

-- ---- the law

-- a number is given to one connection, and to the tenant whose turn it is
abbrev pub IsNextGiven : ℕ → List Turn → Bound → Type 0
IsNextGiven first before (bound.Bound n) = (n ≡ tenancy_after first before) × (had_bind n before ≡ false)
IsNextGiven first before (bound.Occupied n conn) = Unit {0}
IsNextGiven first before (bound.Worn conn) = Unit {0}

-- A call takes effect in its place alone: `open` once for each tenant, behind his `bind`; each other step exactly
-- between his `open` and the end of his request; `release` behind that end.
abbrev pub IsInPlace : ℕ → List Turn → Turn → Type 0
IsInPlace first before (was_bound conn answer) = IsNextGiven first before answer
IsInPlace first before (was_opened n e) =
    has_effect e ≡ true
    → (n ≡ tenancy_after first before) × (had_bind n before ≡ true) × (had_open n before ≡ false)
IsInPlace first before (was_stepped n e) =
    (has_effect e ≡ is_live n before) × (has_effect e ≡ true → n ≡ tenancy_after first before)
IsInPlace first before was_released = had_end (tenancy_after first before) before ≡ true

abbrev pub AreInPlace : ℕ → List Turn → Type 0
AreInPlace first [] = Unit {0}
AreInPlace first (t ∷ before) = IsInPlace first before t × AreInPlace first before

-- what holds after some calls
pub record ServesItsTenants (first : ℕ) (turns : List Turn) (slot : SlotParts) : Type 0 where
  pub in_place : AreInPlace first turns
  pub tenancy : slot.tenancy ≡ tenancy_after first turns
  pub began : slot.first ≡ first

abbrev pub SlotServesItsTenants : Type 0
SlotServesItsTenants =
    (limits : Limits) (first : ℕ) (turns : List Turn) (slot : SlotParts)
    → IsUse limits first turns slot → ServesItsTenants first turns slot
