-- Who sits in a slot.
use Rattle.std.proofs.Common.{◌≡◌, ℕ, Bool, true, false, Option, Some, None, option_map, refl, sym, ap, ◌∙◌, subst}
use Rattle.std.specs.Prelude.{slice_get}
use Rattle.cy_proc.specs.Processors.{is_open_at}
use Rattle.cy_slot.specs.Reaching.{Who, who_is}
use Rattle.cy_slot.specs.Slots.{SlotParts}
use Rattle.cy_world.specs.Answered.{SeatParts}
use Rattle.cy_world.specs.Places.{IsInItsSlot, PlaceParts, SitsWhile}
use Rattle.cy_world.specs.Told.{SitsIn}
use Rattle.cy_world.specs.Worlds.{WorldParts}

-- the place of a slot
pub record IsSlotOf (p : WorldParts) (i : ℕ) (slot : SlotParts) : Type 0 where
  pub seat : SeatParts
  pub there : slice_get p.seats i ≡ Some seat
  pub is : seat.place.slot ≡ slot

pub slot_of : (p : WorldParts) (i : ℕ) (slot : SlotParts) (o : Option SeatParts) → slice_get p.seats i ≡ o → option_map (λ (seat : SeatParts). seat.place.slot) o ≡ Some slot → IsSlotOf p i slot
slot_of p i slot None at is = cc
slot_of p i slot (Some seat) at is = record { seat = seat; there = at; is = cc }

pub record IsSitter (p : WorldParts) (c i : ℕ) : Type 0 where
  pub seat : SeatParts
  pub there : slice_get p.seats i ≡ Some seat
  pub who : who_is seat.place.slot.tenant ≡ Some (record { share = i; number = c })

none_some : (o : Option Who) → None ≡ Some o → ⊥
none_some o e = cc

-- the connection sits in the slot of a place
pub sitter : (p : WorldParts) (c i : ℕ) (o : Option SeatParts) → slice_get p.seats i ≡ o → SitsIn c i p → IsSitter p c i
sitter p c i None at sits =
    absurd (none_some (Some (record { share = i; number = c }))
    (sym (ap (λ (q : Option SeatParts). option_map (λ (slot : SlotParts). who_is slot.tenant) (option_map (λ (seat : SeatParts). seat.place.slot) q)) at) ∙ sits))
sitter p c i (Some seat) at sits =
    let one : Some (who_is seat.place.slot.tenant) ≡ Some (Some (record { share = i; number = c })) =
    sym (ap (λ (q : Option SeatParts). option_map (λ (slot : SlotParts). who_is slot.tenant) (option_map (λ (seat : SeatParts). seat.place.slot) q)) at) ∙ sits in
    record { seat = seat; there = at; who = cc }

-- whoever sits in the slot of a place, his request is open
pub sitter_open : (p : PlaceParts) (who : Who) → IsInItsSlot p → who_is p.slot.tenant ≡ Some who → is_open_at p.live.processor.stage ≡ true
sitter_open p who slot sits = by_open (is_open_at p.live.processor.stage) slot.sits
  where
    by_open : (v : Bool) → SitsWhile v p → v ≡ true
    by_open true s = refl
    by_open false empty = let clash : None ≡ Some who = sym (ap (λ (q : SlotParts). who_is q.tenant) empty) ∙ sits in cc

-- and the place is held for him
pub held_for_sitter : (p : PlaceParts) (who : Who) → IsInItsSlot p → who_is p.slot.tenant ≡ Some who → p.who ≡ Some who
held_for_sitter p who slot sits =
    let open_now = sitter_open p who slot sits in
    sym (subst (λ (v : Bool). SitsWhile v p) open_now slot.sits).1 ∙ sits
