-- Connections have places of their own, and one is free where fewer are counted than may be.
use Rattle.std.proofs.Common.{◌≡◌, ◌≤◌, ◌<◌, ℕ, zero, suc, Bool, true, false, cond, List, [], ◌∷◌, length, Option, Some, None, is_some, option_map, refl, sym, ap, ◌∙◌, subst, arith, ◌⊎◌, inl, inr, if◌then◌else◌}
use Rattle.std.specs.Prelude.{slice_get}
use Rattle.std.proofs.lemmas.Bool.{cases_lt, le-ltb, lt-ltb}
use Rattle.std.proofs.lemmas.List.Sums.{sum_by-cons}
use Rattle.cy_event.specs.declared.steps.Reply.TheVariants as reply
use Rattle.cy_event.specs.declared.steps.Step.{Step}
use Rattle.cy_event.specs.declared.steps.Step.TheVariants as step
use Rattle.cy_latch.specs.Numbers.{count_out, is_out}
use Rattle.cy_latch.proofs.Sets.{out_is_below}
use Rattle.cy_model.specs.Connections.{admits, connections, counted, find_own, moment}
use Rattle.cy_model.specs.Entries.{Entry, opening}
use Rattle.cy_model.specs.Replies.{Replied, plain}
use Rattle.cy_model.proofs.OwnEntries.{admissions_open_one}
use Rattle.cy_slot.specs.Reaching.{Who, who_is}
use Rattle.cy_slot.specs.Slots.{SlotParts}
use Rattle.cy_world.specs.Answered.{SeatParts}
use Rattle.cy_world.specs.Laws.{AdmitsByCount, CountedNeverExceed, HasFreePlace, TwoSitInTwoSlots, counted_in}
use Rattle.cy_world.specs.Told.{IsHeldFor, SitsIn, slot_at}
use Rattle.cy_world.specs.Worlds.{CanTake, StandsFor, StandsForOne, TakesStep, WorldParts, find_in}
use Rattle.cy_world.specs.declared.terms.Terms.{Terms}
use Rattle.cy_world.specs.declared.world.Admitted.{Admitted}
use Rattle.cy_world.specs.declared.world.Admitted.TheVariants.{Seated}
use Rattle.cy_world.proofs.Admitting.{count_within, none_found}
use Rattle.cy_world.proofs.Guests.{HavePlacesApart, out_is_booked}
use Rattle.cy_world.proofs.Sitters.{held_for_sitter, sitter}
use Rattle.cy_world.proofs.Stepping.{all_of, found, some}

-- ---- places

held_for : (w : List Step) (p : WorldParts) (c i : ℕ) → StandsFor w p → find_in c p.book ≡ Some (Seated i) → IsHeldFor (record { share = i; number = c }) i p
held_for w p c i stands booked =
    let f = found p.terms p.seats c i (find_own c (all_of p w)) (find_in c p.book) booked (stands.each c) in
    ap (option_map (λ (seat : SeatParts). seat.place.who)) f.seated.there ∙ ap Some f.seated.who

-- one place is held for one connection
one_number : (p : WorldParts) (i : ℕ) (a b : Who) → IsHeldFor a i p → IsHeldFor b i p → a ≡ b
one_number p i a b mine other = some a b (some (Some a) (Some b) (sym mine ∙ other))

-- what a place that is held is
record IsHeld (p : WorldParts) (i : ℕ) (who : Who) : Type 0 where
  pub seat : SeatParts
  pub there : slice_get p.seats i ≡ Some seat
  pub who_is : seat.place.who ≡ Some who

is_held : (p : WorldParts) (i : ℕ) (who : Who) (o : Option SeatParts) → slice_get p.seats i ≡ o → option_map (λ (seat : SeatParts). seat.place.who) o ≡ Some (Some who) → IsHeld p i who
is_held p i who None at held = cc
is_held p i who (Some seat) at held = record { seat = seat; there = at; who_is = some seat.place.who (Some who) held }

share_of : (w : List Step) (p : WorldParts) (who : Who) (i : ℕ) → StandsFor w p → IsHeldFor who i p → (who.share ≡ i) × (is_out p.latch i ≡ true) × (i < p.terms.limits.max_connections)
share_of w p who i stands held =
    let place = is_held p i who (slice_get p.seats i) refl held in
    let is = stands.places.each i place.seat place.there in
    let out : is_out p.latch i ≡ true = sym is.held ∙ ap is_some place.who_is in
    (is.share who place.who_is, out, omega (arith, out_is_below p.latch i out, stands.places.latch))

one_guest : (p : WorldParts) (c d i j : ℕ) → SitsIn c i p → SitsIn d j p → i ≡ j → c ≡ d
one_guest p c d i j mine other same =
    let one : Some (Some (record { share = i; number = c })) ≡ Some (Some (record { share = j; number = d })) =
    sym mine ∙ ap (λ (n : ℕ). option_map (λ (slot : SlotParts). who_is slot.tenant) (slot_at n p)) same ∙ other in
    ap (λ (who : Who). who.number) (some (record { share = i; number = c }) (record { share = j; number = d })
    (some (Some (record { share = i; number = c })) (Some (record { share = j; number = d })) one))

two_places : (w : List Step) (p : WorldParts) → StandsFor w p → HavePlacesApart p
two_places w p stands c d i j one other away same =
    away (ap (λ (who : Who). who.number) (one_number p j (record { share = i; number = c }) (record { share = j; number = d })
    (subst (λ (n : ℕ). IsHeldFor (record { share = i; number = c }) n p) same (held_for w p c i stands one))
    (held_for w p d j stands other)))

-- for whom a place is held, the book has that place
pub guest_booked : (w : List Step) (p : WorldParts) (who : Who) (i : ℕ) → StandsFor w p → IsHeldFor who i p → find_in who.number p.book ≡ Some (Seated i)
guest_booked w p who i stands held =
    let booked = out_is_booked w p i stands (two_places w p stands) (share_of w p who i stands held).1 in
    let same = one_number p i (record { share = i; number = booked.0 }) who (held_for w p booked.0 i stands booked.1) held in
    ap (λ (x : Who). find_in x.number p.book) (sym same) ∙ booked.1

-- who sits in a slot is he for whom its place is held
sits_held : (p : WorldParts) (c i : ℕ) (w : List Step) → StandsFor w p → SitsIn c i p → IsHeldFor (record { share = i; number = c }) i p
sits_held p c i w stands sits =
    let s = sitter p c i (slice_get p.seats i) refl sits in
    let place = stands.places.each i s.seat s.there in
    ap (option_map (λ (seat : SeatParts). seat.place.who)) s.there ∙ ap Some (held_for_sitter s.seat.place (record { share = i; number = c }) place.slot s.who)

pub seated_in : (w : List Step) (p : WorldParts) (c i : ℕ) → StandsFor w p → SitsIn c i p → find_in c p.book ≡ Some (Seated i)
seated_in w p c i stands sits = guest_booked w p (record { share = i; number = c }) i stands (sits_held p c i w stands sits)

pub two_sit_in_two_slots : TwoSitInTwoSlots
two_sit_in_two_slots w p stands = record {
  held = λ c i booked. held_for w p c i stands booked;
  places = λ c d i j one other. two_places w p stands c d i j one other;
  share = λ who i held. share_of w p who i stands held;
  booked = λ who i held. guest_booked w p who i stands held;
  seated = λ c i sits. seated_in w p c i stands sits;
  slots = λ c d i j mine other away same. away (one_guest p c d i j mine other same);
}

-- ---- a place is free

record IsFreeIn (latch : List Bool) : Type 0 where
  pub number : ℕ
  pub below : number < length latch
  pub free : is_out latch number ≡ false

free_in : (latch : List Bool) → count_out latch < length latch → IsFreeIn latch
free_in [] less = absurd (omega (arith, less))
free_in (false ∷ vs) less = record { number = 0; below = omega arith; free = refl }
free_in (true ∷ vs) less =
    let rest = free_in vs (omega (arith, less, sum_by-cons (λ (b : Bool). cond b 1 0) true vs)) in
    record { number = suc rest.number; below = omega (arith, rest.below); free = rest.free }

there_is : (seats : List SeatParts) (i : ℕ) → i < length seats → (seat : SeatParts) × (slice_get seats i ≡ Some seat)
there_is [] i below = absurd (omega (arith, below))
there_is (s ∷ ss) zero below = (s, refl)
there_is (s ∷ ss) (suc i) below = there_is ss i (omega (arith, below))

free_place : (w : List Step) (p : WorldParts) → StandsFor w p → counted_in p w < p.terms.limits.max_connections → HasFreePlace p
free_place w p stands less =
    let free = free_in p.latch (omega (arith, less, stands.counted, stands.places.latch)) in
    let at = there_is p.seats free.number (omega (arith, free.below, stands.places.latch, stands.places.seats)) in
    record {
      number = free.number;
      below = omega (arith, free.below, stands.places.latch);
      seat = at.0;
      there = at.1;
      vacant = (stands.places.each free.number at.0 at.1).vacant free.free;
    }

-- ---- admissions

-- whether one more may be counted
abbrev may_admit : WorldParts → List Step → Bool
may_admit p w = admits p.terms.limits p.terms.rules (all_of p w)

abbrev most_in : WorldParts → ℕ
most_in p = p.terms.limits.max_connections

-- what an admission is answered, by whether one more may be counted
abbrev answer_by : Bool → ℕ → Replied
answer_by v n = plain (if v then reply.Entered else reply.Full n)

only_full : (v : Bool) (n m : ℕ) → answer_by v n ≡ plain (reply.Full m) → (v ≡ false) × (n ≡ m)
only_full true n m e = let clash : reply.Entered ≡ reply.Full m = ap (λ (r : Replied). r.reply) e in cc
only_full false n m e = let same : reply.Full n ≡ reply.Full m = ap (λ (r : Replied). r.reply) e in (refl, cc)

only_entered : (v : Bool) (n : ℕ) → answer_by v n ≡ plain reply.Entered → v ≡ true
only_entered true n e = refl
only_entered false n e = let clash : reply.Full n ≡ reply.Entered = ap (λ (r : Replied). r.reply) e in cc

in_book : (s : Terms) (seats : List SeatParts) (c : ℕ) (entries : List (ℕ × Entry)) (o : Option (List (ℕ × Entry))) (a : Option Admitted) → o ≡ Some entries → StandsForOne s seats c o a → is_some a ≡ true
in_book s seats c entries None a is stands = cc
in_book s seats c entries (Some es) None is stands = absurd stands
in_book s seats c entries (Some es) (Some a) is stands = refl

-- an accepted admission gets into the book
gets_in : (w : List Step) (p q : WorldParts) (c : ℕ) → StandsFor w p → find_in c p.book ≡ None → StandsFor (step.Admit c ∷ w) q → q.terms ≡ p.terms
    → may_admit p w ≡ true → is_some (find_in c q.book) ≡ true
gets_in w p q c stands unknown after same admitted =
    let s = p.terms in
    let hs = all_of p w in
    let none : find_own c hs ≡ None = none_found s p.seats c (find_own c hs) (find_in c p.book) unknown (stands.each c) in
    let law = admissions_open_one s.limits s.rules w c (ap (λ (v : Bool). answer_by v (counted s.limits s.rules hs)) admitted) in
    let own : find_own c (connections q.terms.limits q.terms.rules (step.Admit c ∷ w)) ≡ Some ((moment w, opening) ∷ []) =
    ap (λ (x : Terms). find_own c (connections x.limits x.rules (step.Admit c ∷ w))) same ∙ law.own none in
    in_book q.terms q.seats c ((moment w, opening) ∷ []) (find_own c (connections q.terms.limits q.terms.rules (step.Admit c ∷ w))) (find_in c q.book) own (after.each c)

not_both : (v : Bool) → v ≡ true → v ≡ false → ⊥
not_both v is is_not = cc

admits_by_count : (w : List Step) (p q : WorldParts) (c : ℕ) (r : Replied) → StandsFor w p → CanTake (step.Admit c) p → TakesStep w (step.Admit c) p r q → q.terms ≡ p.terms
    → AdmitsByCount w c p r q
admits_by_count w p q c r stands unknown takes same = by_order (cases_lt (counted_in p w) (most_in p))
  where
    by_order : (counted_in p w < most_in p) ⊎ (most_in p ≤ counted_in p w) → AdmitsByCount w c p r q
    by_order (inl less) =
        let may : may_admit p w ≡ true = lt-ltb (counted_in p w) (most_in p) less in
        record {
          full = (
            λ is. absurd (not_both (may_admit p w) may
                (only_full (may_admit p w) (counted_in p w) (most_in p) (sym takes.reply ∙ is)).0),
            λ is. absurd (omega (arith, less, is)),
          );
          entered = (λ is. omega (arith, less), λ is. takes.reply ∙ ap (λ (b : Bool). answer_by b (counted_in p w)) may);
          booked = λ is. gets_in w p q c stands unknown takes.stands same may;
        }
    by_order (inr all_are) =
        let may_not : may_admit p w ≡ false = le-ltb (counted_in p w) (most_in p) all_are in
        let within : counted_in p w ≤ most_in p = omega (arith, count_within p.latch, stands.counted, stands.places.latch) in
        let clash : r ≡ plain reply.Entered → ⊥ = λ is.
        not_both (may_admit p w) (only_entered (may_admit p w) (counted_in p w) (sym takes.reply ∙ is)) may_not in
        record {
          full = (
            λ is. omega (arith, within, all_are),
            λ is. takes.reply ∙ ap (λ (b : Bool). answer_by b (counted_in p w)) may_not ∙ ap (λ (n : ℕ). plain (reply.Full n)) is,
          );
          entered = (λ is. absurd (clash is), λ is. absurd (omega (arith, is, all_are)));
          booked = λ is. absurd (clash is);
        }

pub counted_never_exceed : CountedNeverExceed
counted_never_exceed w p stands = record {
  within = omega (arith, count_within p.latch, stands.counted, stands.places.latch);
  free = λ less. free_place w p stands less;
  admits = λ c r q can takes same. admits_by_count w p q c r stands can takes same;
}
