-- A step of a connection that has a place, and an admission: the connector stands for the steps with it, whether or not
-- the connection is gone then.
use Rattle.std.proofs.Common.{◌≡◌, ◌<◌, ℕ, zero, suc, Bool, true, false, List, [], ◌∷◌, length, set, Ok, Err, OnErr, Result, Some, None, is_some, refl, sym, ap, ◌∙◌, subst, arith, ◌⊎◌, inl, inr, if◌then◌else◌}
use Rattle.std.specs.Prelude.{slice_get, slice_index_or}
use Rattle.std.proofs.lemmas.Bool.{cases_eq}
use Rattle.std.proofs.lemmas.List.{length-set}
use Rattle.std.proofs.lemmas.Option.{slice_get_read, slice_get_within}
use Rattle.cy_event.specs.declared.steps.Reply.{Reply}
use Rattle.cy_event.specs.declared.steps.Reply.TheVariants as reply
use Rattle.cy_event.specs.declared.steps.Step.{Step}
use Rattle.cy_event.specs.declared.steps.Step.TheVariants as step
use Rattle.cy_latch.specs.Numbers.{after_leave, is_out}
use Rattle.cy_latch.proofs.Sets.{is_out-set_same}
use Rattle.cy_model.specs.Entries.{after, opening}
use Rattle.cy_model.specs.Replies.{Replied, plain, replied_in}
use Rattle.cy_proc.specs.Processors.{is_over_at}
use Rattle.cy_world.specs.Answered.{AnswersEach, IsSameButRooms, IsVacant, Keeps, SeatParts, entry_by, seat_parts, start}
use Rattle.cy_world.specs.Places.{CountsHeads, IsInItsSlot}
use Rattle.cy_world.specs.Worlds.{IsAsBefore, IsOwnOf, IsPlaceOf, PutsDown, Retires, StandsFor, TakesStep, WorldParts, find_in}
use Rattle.cy_world.specs.declared.world.Admitted.{Admitted}
use Rattle.cy_world.specs.declared.world.Admitted.TheVariants.{Seated}
use Rattle.cy_world.proofs.Admitting.{admission_stands}
use Rattle.cy_world.proofs.Elements.{get-set_other, get-set_same}
use Rattle.cy_world.proofs.Retiring.{retires_right}
use Rattle.cy_world.proofs.Stepping.{entry_stands, has_place, kind_of_own, same_place, same_stands, some}

-- ---- lists

pub set_twice : {X : Type 0} (xs : List X) (i : ℕ) (y z : X) → set (set xs i y) i z ≡ set xs i z
set_twice [] i y z = refl
set_twice (x ∷ xs) zero y z = refl
set_twice (x ∷ xs) (suc i) y z = ap (λ zs. x ∷ zs) (set_twice xs i y z)

-- the element that is lent is that of the list
pub item_is : {X : Type 0} (xs : List X) (i : ℕ) (x : X) → i < length xs → x ≡ slice_index_or xs i x → slice_get xs i ≡ Some x
item_is xs i x below is = slice_get_read xs (length xs) i x refl below is

pub on_err : {A E : Type 0} (r : Result A E) (X : Type 0) → X → OnErr r X
on_err (Ok a) X x = tt
on_err (Err e) X x = x

-- ---- the seat of a connection

-- the seat that is lent is that of the place which the book has
pub record IsLent (p : WorldParts) (i : ℕ) (seat : SeatParts) : Type 0 where
  pub there : slice_get p.seats i ≡ Some seat
  pub kept : is_over_at seat.place.live.processor.stage ≡ false
  pub guest : is_some seat.place.who ≡ true
  pub slot : IsInItsSlot seat.place

pub place_below : (w : List Step) (p : WorldParts) (c i : ℕ) → StandsFor w p → find_in c p.book ≡ Some (Seated i) → i < length p.seats
place_below w p c i stands booked =
    let place = has_place w p c i stands booked in
    slice_get_within p.seats i place.seat place.there

pub is_lent : (w : List Step) (p : WorldParts) (c i : ℕ) (seat : SeatParts) → StandsFor w p → find_in c p.book ≡ Some (Seated i) → seat ≡ slice_index_or p.seats i seat → IsLent p i seat
is_lent w p c i seat stands booked value =
    let place = has_place w p c i stands booked in
    let there = item_is p.seats i seat (place_below w p c i stands booked) value in
    let same : place.seat ≡ seat = some place.seat seat (sym place.there ∙ there) in
    record {
      there = there;
      kept = subst (λ (k : SeatParts). is_over_at k.place.live.processor.stage ≡ false) same place.kept;
      guest = subst (λ (k : SeatParts). is_some k.place.who ≡ true) same place.guest;
      slot = (stands.places.each i seat there).slot;
    }

-- the seat that is lent is that of the place whose share was drawn
pub record IsFree (p : WorldParts) (i : ℕ) (seat : SeatParts) : Type 0 where
  pub there : slice_get p.seats i ≡ Some seat
  pub place : IsPlaceOf p.terms i false seat

pub is_free : (w : List Step) (p : WorldParts) (i : ℕ) (seat : SeatParts) → StandsFor w p → i < length p.latch → is_out p.latch i ≡ false → seat ≡ slice_index_or p.seats i seat → IsFree p i seat
is_free w p i seat stands below free value =
    let there = item_is p.seats i seat (omega (arith, below, stands.places.seats, stands.places.latch)) value in
    record { there = there; place = subst (λ (out : Bool). IsPlaceOf p.terms i out seat) free (stands.places.each i seat there) }

-- what was got for it leaves it free
pub vacant_still : (p : WorldParts) (i : ℕ) (seat new : SeatParts) → IsFree p i seat → IsSameButRooms seat new → IsVacant p.terms.limits new
vacant_still p i seat new free same = (same_place p.terms i false seat new same free.place).vacant refl

-- ---- a step of a connection

pub own_stands : (w : List Step) (s : Step) (c i : ℕ) (p : WorldParts) (seat taken left : SeatParts) (r : Reply) (into : List ℕ) (latch : List Bool) (book : List (ℕ × Admitted)) → IsOwnOf c s → StandsFor w p
    → find_in c p.book ≡ Some (Seated i) → slice_get p.seats i ≡ Some seat → taken.place.who ≡ seat.place.who → is_over_at taken.place.live.processor.stage ≡ false → CountsHeads seat.place taken.place → IsInItsSlot taken.place
    → AnswersEach p.terms (entry_by s) (seat_parts seat) r into (seat_parts taken) → Retires c taken p.latch p.book left latch book
    → TakesStep w s p (replied_in r into) (record p { seats = set p.seats i left; latch = latch; book = book })
own_stands w s c i p seat taken left r into latch book own stands booked there who kept counts slot answers retires =
    let takes = entry_stands w s c i (entry_by s) p seat taken r into (kind_of_own c s own) stands booked there who kept counts slot answers in
    record {
      reply = takes.reply;
      stands = subst (λ (xs : List SeatParts). StandsFor (s ∷ w) (record p { seats = xs; latch = latch; book = book })) (set_twice p.seats i taken left)
          (retires_right (s ∷ w) c i takes.trace (record p { seats = set p.seats i taken }) taken left latch book takes.stands (get-set_same p.seats i seat taken there) retires);
    }

-- ---- an admission

pub admit_stands : (w : List Step) (c n : ℕ) (p : WorldParts) (seat new left : SeatParts) (latch latch_after : List Bool) (book book_after : List (ℕ × Admitted)) → StandsFor w p
    → find_in c p.book ≡ None → n < length p.latch → is_out p.latch n ≡ false → latch ≡ set p.latch n true → slice_get p.seats n ≡ Some seat
    → new.place.who ≡ Some (record { share = n; number = c }) → Keeps p.terms (after p.terms.limits p.terms.rules start [] opening) (seat_parts new) → CountsHeads seat.place new.place → IsInItsSlot new.place
    → PutsDown c (Seated n) p.book book → Retires c new latch book left latch_after book_after
    → TakesStep w (step.Admit c) p (plain reply.Entered) (record p { seats = set p.seats n left; latch = latch_after; book = book_after })
admit_stands w c n p seat new left latch latch_after book book_after stands unknown below free drawn there who keeps counts slot puts retires =
    let takes = admission_stands w c n p seat new latch book stands unknown below free drawn there who keeps counts slot puts in
    let T = after p.terms.limits p.terms.rules start [] opening in
    record {
      reply = takes.reply;
      stands = subst (λ (xs : List SeatParts). StandsFor (step.Admit c ∷ w) (record p { seats = xs; latch = latch_after; book = book_after })) (set_twice p.seats n new left)
          (retires_right (step.Admit c ∷ w) c n T (record p { seats = set p.seats n new; latch = latch; book = book }) new left latch_after book_after takes.stands (get-set_same p.seats n seat new there) retires);
    }

-- the share that was drawn is left again
pub left_again : (latch drawn : List Bool) (n : ℕ) → n < length latch → is_out latch n ≡ false → drawn ≡ set latch n true → after_leave drawn n ≡ latch
left_again latch drawn n below free is =
    ap (λ (l : List Bool). after_leave l n) is
    ∙ ap (λ (v : Bool). if v then set (set latch n true) n false else set latch n true) (is_out-set_same latch n true below)
    ∙ set_twice latch n true false
    ∙ was_free latch n free below
  where
    below_suc : (i n : ℕ) → suc i < suc n → i < n
    below_suc i n lt = omega (arith, lt)

    was_free : (vs : List Bool) (i : ℕ) → is_out vs i ≡ false → i < length vs → set vs i false ≡ vs
    was_free [] i f lt = refl
    was_free (v ∷ vs) zero f lt = ap (λ (x : Bool). x ∷ vs) (sym f)
    was_free (v ∷ vs) (suc i) f lt = ap (λ (xs : List Bool). v ∷ xs) (was_free vs i f (below_suc i (length vs) lt))

-- only room changed in a place, and latch and book are as before
pub same_again : (w : List Step) (p : WorldParts) (n : ℕ) (seat new : SeatParts) (latch : List Bool) (book : List (ℕ × Admitted)) → StandsFor w p → slice_get p.seats n ≡ Some seat
    → IsSameButRooms seat new → latch ≡ p.latch → book ≡ p.book → StandsFor w (record p { seats = set p.seats n new; latch = latch; book = book })
same_again w p n seat new latch book stands there same left unbooked =
    subst (λ (b : List (ℕ × Admitted)). StandsFor w (record p { seats = set p.seats n new; latch = latch; book = b })) (sym unbooked)
    (subst (λ (l : List Bool). StandsFor w (record p { seats = set p.seats n new; latch = l })) (sym left) (same_stands w p n seat new stands there same))

same_rooms : (seat : SeatParts) → IsSameButRooms seat seat
same_rooms seat = record { place = refl; written = refl }

pub as_before : (p : WorldParts) (n : ℕ) (seat new : SeatParts) (latch : List Bool) (book : List (ℕ × Admitted)) → slice_get p.seats n ≡ Some seat
    → IsSameButRooms seat new → latch ≡ p.latch → book ≡ p.book → IsAsBefore p (record p { seats = set p.seats n new; latch = latch; book = book })
as_before p n seat new latch book there same left unbooked = record {
  terms = refl;
  latch = left;
  book = unbooked;
  count = length-set p.seats n new;
  seats = λ i before later at at_now. by_place i before later (cases_eq i n) at at_now;
}
  where
    by_place : (i : ℕ) (before later : SeatParts) → (i ≡ n) ⊎ (i ≡ n → ⊥) → slice_get p.seats i ≡ Some before → slice_get (set p.seats n new) i ≡ Some later → IsSameButRooms before later
    by_place i before later (inl e) at at_now =
        let was : seat ≡ before = some seat before (sym there ∙ ap (slice_get p.seats) (sym e) ∙ at) in
        let is : new ≡ later = some new later (sym (get-set_same p.seats n seat new there) ∙ ap (slice_get (set p.seats n new)) (sym e) ∙ at_now) in
        subst (IsSameButRooms before) is (subst (λ (k : SeatParts). IsSameButRooms k new) was same)
    by_place i before later (inr other) at at_now =
        subst (IsSameButRooms before) (some before later (sym at ∙ sym (get-set_other p.seats n i new other) ∙ at_now)) (same_rooms before)

-- the same reply by another name
pub answered_as : (w : List Step) (s : Step) (p q : WorldParts) (r other : Replied) → r ≡ other → TakesStep w s p other q → TakesStep w s p r q
answered_as w s p q r other same takes = record { reply = same ∙ takes.reply; stands = takes.stands }
