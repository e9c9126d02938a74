-- A slot holds a connection exactly while a request of it is open.
use Rattle.std.proofs.Common.{◌≡◌, ℕ, Bool, true, false, List, [], ◌∷◌, Option, Some, None, is_some, option_map, refl, sym, ap, ◌∙◌, subst}
use Rattle.std.specs.Prelude.{slice_get}
use Rattle.cy_event.specs.declared.limits.Limits.{Limits}
use Rattle.cy_event.specs.declared.steps.Step.{Step}
use Rattle.cy_model.specs.Connections.{find_own, own_entries}
use Rattle.cy_model.specs.Entries.{Entry, trace_of}
use Rattle.cy_model.specs.Folds.{is_open}
use Rattle.cy_model.specs.Marks.{opened}
use Rattle.cy_proc.specs.Lines.{LineParts}
use Rattle.cy_proc.specs.ProcessorAnswers.{Serves}
use Rattle.cy_proc.specs.Processors.{ProcessorParts, is_open_at}
use Rattle.cy_proc.proofs.Requests.{stands_open}
use Rattle.cy_slot.specs.Reaching.{Who, who_is}
use Rattle.cy_slot.specs.Slots.{SlotParts}
use Rattle.cy_slot.specs.declared.conn.Conn.{Conn}
use Rattle.cy_world.specs.Answered.{SeatParts, start}
use Rattle.cy_world.specs.Laws.{IsServedIn, SlotsHoldOpenRequests, TenanciesAddUp, ValidStepsCanBeTaken}
use Rattle.cy_world.specs.Places.{IsEmpty, SitsWhile}
use Rattle.cy_world.specs.Told.{SitsIn}
use Rattle.cy_world.specs.Worlds.{IsPlaceOf, IsSeatedFor, StandsFor, StandsForOne, WorldParts, find_in}
use Rattle.cy_world.specs.declared.terms.Terms.{Terms}
use Rattle.cy_world.specs.declared.world.Admitted.{Admitted}
use Rattle.cy_world.specs.declared.world.Admitted.TheVariants.{Seated, Gone}
use Rattle.cy_world.proofs.Apart.{seated_in}
use Rattle.cy_world.proofs.Reporting.{can_take}
use Rattle.cy_world.proofs.Retiring.{gone_closed}
use Rattle.cy_world.proofs.Sitters.{sitter, sitter_open, slot_of}
use Rattle.cy_world.proofs.Stepping.{all_of, found, some}

not_both : (v : Bool) → v ≡ true → v ≡ false → ⊥
not_both v is is_not = cc

-- the place of a connection of which a request is open
open_seat : (s : Terms) (seats : List SeatParts) (c : ℕ) (entries : List (ℕ × Entry)) (a : Option Admitted) → StandsForOne s seats c (Some entries) a
    → is_open (trace_of s.limits s.rules entries) ≡ true → (i : ℕ) × IsSeatedFor s seats c (trace_of s.limits s.rules entries) i
open_seat s seats c entries None stands o = absurd stands
open_seat s seats c entries (Some (Seated i)) stands o = (i, stands.0)
open_seat s seats c entries (Some (Gone a)) stands o =
    absurd (not_both (is_open (trace_of s.limits s.rules entries)) o (gone_closed (trace_of s.limits s.rules entries) stands.gone))

served : (w : List Step) (p : WorldParts) → StandsFor w p → (c : ℕ) (entries : List (ℕ × Entry)) → own_entries p.terms.limits p.terms.rules w c ≡ Some entries
    → is_open (trace_of p.terms.limits p.terms.rules entries) ≡ true → IsServedIn (trace_of p.terms.limits p.terms.rules entries) c p
served w p stands c entries own o =
    let T = trace_of p.terms.limits p.terms.rules entries in
    let w_of = open_seat p.terms p.seats c entries (find_in c p.book)
    (subst (λ (e : Option (List (ℕ × Entry))). StandsForOne p.terms p.seats c e (find_in c p.book)) own (stands.each c)) o in
    let i = w_of.0 in
    let v = w_of.1 in
    let place = stands.places.each i v.seat v.there in
    let open_now : is_open_at v.seat.place.live.processor.stage ≡ true = sym (stands_open T v.seat.place.live.processor v.keeps.lives.serves.processor) ∙ o in
    let sits = subst (λ (b : Bool). SitsWhile b v.seat.place) open_now place.slot.sits in
    record {
      number = i;
      slot = v.seat.place.slot;
      there = ap (option_map (λ (seat : SeatParts). seat.place.slot)) v.there;
      sits = sits.1 ∙ v.who;
      serves = subst (λ (l : LineParts). Serves T l v.seat.place.slot.processor) sits.0
          (subst (λ (q : ProcessorParts). Serves T v.seat.place.live.line q) place.slot.processor v.keeps.lives.serves);
    }

only : (w : List Step) (p : WorldParts) → StandsFor w p → (c i : ℕ) → SitsIn c i p
    → option_map (λ (entries : List (ℕ × Entry)). is_open (trace_of p.terms.limits p.terms.rules entries)) (own_entries p.terms.limits p.terms.rules w c) ≡ Some true
only w p stands c i sits =
    let f = found p.terms p.seats c i (find_own c (all_of p w)) (find_in c p.book) (seated_in w p c i stands sits) (stands.each c) in
    let T = trace_of p.terms.limits p.terms.rules f.entries in
    let s = sitter p c i (slice_get p.seats i) refl sits in
    let same : f.seated.seat ≡ s.seat = some f.seated.seat s.seat (sym f.seated.there ∙ s.there) in
    let open_now = sitter_open s.seat.place (record { share = i; number = c }) (stands.places.each i s.seat s.there).slot s.who in
    ap (option_map (λ (entries : List (ℕ × Entry)). is_open (trace_of p.terms.limits p.terms.rules entries))) f.is
    ∙ ap Some (stands_open T f.seated.seat.place.live.processor f.seated.keeps.lives.serves.processor ∙ ap (λ (k : SeatParts). is_open_at k.place.live.processor.stage) same ∙ open_now)

-- ---- a slot in which nobody sits

nobody : (t : Option Conn) → is_some t ≡ false → who_is t ≡ None
nobody None e = refl
nobody (Some conn) e = cc

none_held : (o : Option Who) → None ≡ o → is_some o ≡ false
none_held None e = refl
none_held (Some who) e = cc

empty_in : (s : Terms) (i : ℕ) (out : Bool) (seat : SeatParts) → IsPlaceOf s i out seat → is_some seat.place.slot.tenant ≡ false → IsEmpty seat.place.slot.processor.limits seat.place.slot
empty_in s i out seat place none = by_open (is_open_at seat.place.live.processor.stage) refl place.slot.sits
  where
    by_open : (v : Bool) → is_open_at seat.place.live.processor.stage ≡ v → SitsWhile v seat.place → IsEmpty seat.place.slot.processor.limits seat.place.slot
    by_open true open_now sits =
        let free : out ≡ false = sym place.held ∙ none_held seat.place.who (sym (nobody seat.place.slot.tenant none) ∙ sits.1) in
        let lives = (place.vacant free).lives in
        absurd (not_both (is_open_at seat.place.live.processor.stage) open_now
        (sym (stands_open ((start, opened) ∷ []) seat.place.live.processor lives.serves.processor)))
    by_open false closed empty =
        subst (λ (k : Limits). IsEmpty k seat.place.slot) (sym (ap (λ (q : SlotParts). q.processor.limits) empty)) empty

pub slots_hold_open_requests : SlotsHoldOpenRequests
slots_hold_open_requests w p stands = record {
  served = served w p stands;
  only = only w p stands;
  empty = λ i slot at none.
      let k = slot_of p i slot (slice_get p.seats i) refl at in
      let place = stands.places.each i k.seat k.there in
      subst (λ (q : SlotParts). is_some q.tenant ≡ false → IsEmpty q.processor.limits q) k.is (empty_in p.terms i _ k.seat place) none;
  first = λ i slot at.
      let k = slot_of p i slot (slice_get p.seats i) refl at in
      ap (λ (q : SlotParts). q.first) (sym k.is) ∙ (stands.places.each i k.seat k.there).slot.first;
}

pub tenancies_add_up : TenanciesAddUp
tenancies_add_up w p stands = stands.tenancies

pub valid_steps_can_be_taken : ValidStepsCanBeTaken
valid_steps_can_be_taken w s p stands valid no_clock = can_take s w p valid no_clock stands
