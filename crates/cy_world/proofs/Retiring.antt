-- A connection that is gone leaves its place, and the connector stands for the same steps.
use Rattle.std.proofs.Common.{◌≡◌, ◌≢◌, ℕ, zero, suc, Bool, true, false, cond, not, ◌&&◌, ◌==◌, List, [], ◌∷◌, length, set, MatchBool, Option, Some, None, is_some, refl, sym, ap, ◌∙◌, subst, arith, ◌⊎◌, inl, inr, if◌then◌else◌}
use Rattle.std.specs.Prelude.{slice_get}
use Rattle.std.proofs.lemmas.Bool.{and_parts, cases_eq}
use Rattle.std.proofs.lemmas.List.{length-set}
use Rattle.cy_event.specs.declared.limits.Limits.{Limits}
use Rattle.cy_event.specs.declared.steps.Step.{Step}
use Rattle.cy_latch.specs.Numbers.{count_out, is_out}
use Rattle.cy_latch.proofs.Sets.{count_left, is_out-set_other, is_out-set_same, out_is_below}
use Rattle.cy_model.specs.Connections.{find_own}
use Rattle.cy_model.specs.Entries.{Entry, trace_of}
use Rattle.cy_model.specs.Marks.{Trace}
use Rattle.cy_model.specs.Folds.{cause_of, is_open}
use Rattle.cy_model.specs.Outputs.{is_gone, unsent}
use Rattle.cy_proc.proofs.Requests.{stands_open}
use Rattle.cy_slot.specs.Reaching.{Who}
use Rattle.cy_world.specs.Answered.{IsVacant, Keeps, SeatParts, seat_parts}
use Rattle.cy_world.specs.Worlds.{ArePlaces, IsPlaceOf, Leaves, Retires, StandsFor, StandsForAdmitted, StandsForOne, Stays, WorldParts, find_in}
use Rattle.cy_world.specs.declared.terms.Terms.{Terms}
use Rattle.cy_world.specs.declared.world.Admitted.{Admitted}
use Rattle.cy_world.specs.declared.world.Admitted.TheVariants.{Seated, Gone}
use Rattle.cy_world.proofs.Elements.{get-set_other, get-set_same, put_down_other, put_down_same}
use Rattle.cy_world.proofs.Stepping.{StandsBut, all_of, others_stay, some}
use Rattle.cy_world.proofs.Tenants.{leaves_adds}

-- ---- it stays

put_back : {X : Type 0} (xs : List X) (i : ℕ) (x : X) → slice_get xs i ≡ Some x → set xs i x ≡ xs
put_back [] i x there = refl
put_back (y ∷ ys) zero x there = ap (λ z. z ∷ ys) (some x y (sym there))
put_back (y ∷ ys) (suc i) x there = ap (λ zs. y ∷ zs) (put_back ys i x there)

-- what the book says of the connection itself
pub stands_for_self : (s : Terms) (seats : List SeatParts) (c : ℕ) (entries : List (ℕ × Entry)) (T : Trace) (o : Option (List (ℕ × Entry))) (a : Option Admitted) (b : Admitted)
    → o ≡ Some entries → trace_of s.limits s.rules entries ≡ T → a ≡ Some b → StandsForAdmitted s seats c T b → StandsForOne s seats c o a
stands_for_self s seats c entries T o a b own trace booked stands =
    subst (λ (x : Option (List (ℕ × Entry))). StandsForOne s seats c x a) (sym own)
    (subst (λ (y : Option Admitted). StandsForOne s seats c (Some entries) y) (sym booked)
    (subst (λ (R : Trace). StandsForAdmitted s seats c R b) (sym trace) stands))

-- of each number, by whether it is that of the connection
pub of_each : (s : Terms) (seats : List SeatParts) (c : ℕ) (own_of : ℕ → Option (List (ℕ × Entry))) (says : ℕ → Option Admitted)
    → StandsForOne s seats c (own_of c) (says c) → ((d : ℕ) → d ≢ c → StandsForOne s seats d (own_of d) (says d))
    → (d : ℕ) → StandsForOne s seats d (own_of d) (says d)
of_each s seats c own_of says self others d = by_number (cases_eq d c)
  where
    by_number : (d ≡ c) ⊎ (d ≡ c → ⊥) → StandsForOne s seats d (own_of d) (says d)
    by_number (inl e) = subst (λ (n : ℕ). StandsForOne s seats n (own_of n) (says n)) (sym e) self
    by_number (inr other) = others d other

stays_on : (w : List Step) (c i : ℕ) (T : Trace) (p : WorldParts) → StandsBut c i T w p → is_gone T ≡ false → StandsFor w p
stays_on w c i T p but here = record {
  moment = but.at;
  distinct = but.distinct;
  each = of_each p.terms p.seats c (λ d. find_own d (all_of p w)) (λ d. find_in d p.book)
      (stands_for_self p.terms p.seats c but.entries T (find_own c (all_of p w)) (find_in c p.book) (Seated i) but.own but.trace but.booked (but.seated, here))
      but.others;
  counted = omega (arith, but.counts, ap {B = ℕ} (λ (v : Bool). cond v 1 0) here);
  places = but.places;
  tenancies = but.tenancies;
}

-- ---- it leaves

pub no_who : (o : Option Who) (w : Who) → o ≡ None → o ≡ Some w → ⊥
no_who o w none one = let clash : None ≡ Some w = sym none ∙ one in cc

leave_places : (p : WorldParts) (i : ℕ) (seat new : SeatParts) (latch : List Bool) → ArePlaces p → slice_get p.seats i ≡ Some seat → is_out p.latch i ≡ true → latch ≡ set p.latch i false
    → IsVacant p.terms.limits new → ArePlaces (record p { seats = set p.seats i new; latch = latch })
leave_places p i seat new latch places there out left vacant = record {
  each = λ j k at. by_place j k (cases_eq j i) at;
  seats = length-set p.seats i new ∙ places.seats;
  latch = ap length left ∙ length-set p.latch i false ∙ places.latch;
}
  where
    mine : (k : SeatParts) → slice_get (set p.seats i new) i ≡ Some k → IsPlaceOf p.terms i (is_out latch i) k
    mine k at =
        let is : new ≡ k = some new k (sym (get-set_same p.seats i seat new there) ∙ at) in
        let free : is_out latch i ≡ false = ap (λ (l : List Bool). is_out l i) left ∙ is_out-set_same p.latch i false (out_is_below p.latch i out) in
        subst (IsPlaceOf p.terms i (is_out latch i)) is (record {
          held = ap is_some vacant.nobody ∙ sym free;
          share = λ w h. absurd (no_who new.place.who w vacant.nobody h);
          kept = vacant.kept;
          slot = vacant.slot;
          vacant = λ none. vacant;
        })

    by_place : (j : ℕ) (k : SeatParts) → (j ≡ i) ⊎ (j ≡ i → ⊥) → slice_get (set p.seats i new) j ≡ Some k → IsPlaceOf p.terms j (is_out latch j) k
    by_place j k (inl e) at =
        subst (λ (n : ℕ). IsPlaceOf p.terms n (is_out latch n) k) (sym e) (mine k (subst (λ (n : ℕ). slice_get (set p.seats i new) n ≡ Some k) e at))
    by_place j k (inr other) at =
        subst (λ (v : Bool). IsPlaceOf p.terms j v k) (sym (ap (λ (l : List Bool). is_out l j) left ∙ is_out-set_other p.latch i j false other))
        (places.each j k (sym (get-set_other p.seats i j new other) ∙ at))

-- no request is open of a connection that is gone
pub gone_closed : (T : Trace) → is_gone T ≡ true → is_open T ≡ false
gone_closed T gone =
    let parts = and_parts (is_some (cause_of T)) (not (is_open T) && (length (unsent T) == 0)) gone in
    not_true (is_open T) (and_parts (not (is_open T)) (length (unsent T) == 0) parts.1).0
  where
    not_true : (v : Bool) → not v ≡ true → v ≡ false
    not_true true e = cc
    not_true false e = refl

leaves_now : (w : List Step) (c i : ℕ) (T : Trace) (p : WorldParts) (seat new : SeatParts) (latch : List Bool) (book : List (ℕ × Admitted)) → StandsBut c i T w p → is_gone T ≡ true
    → slice_get p.seats i ≡ Some seat → Leaves c seat p.latch p.book new latch book → StandsFor w (record p { seats = set p.seats i new; latch = latch; book = book })
leaves_now w c i T p seat new latch book but gone there leaves =
    let s = p.terms in
    let is : but.seated.seat ≡ seat = some but.seated.seat seat (sym but.seated.there ∙ there) in
    let who : seat.place.who ≡ Some (record { share = i; number = c }) = ap (λ (k : SeatParts). k.place.who) (sym is) ∙ but.seated.who in
    let out : is_out p.latch i ≡ true = sym (but.places.each i seat there).held ∙ ap is_some who in
    let left : latch ≡ set p.latch i false = leaves.left (record { share = i; number = c }) who ∙ ap (λ (v : Bool). if v then set p.latch i false else p.latch) out in
    let limits : seat.place.live.limits ≡ s.limits = ap (λ (k : SeatParts). k.place.live.limits) (sym is) ∙ but.seated.keeps.limits in
    let vacant : IsVacant s.limits new = subst (λ (l : Limits). IsVacant l new) limits leaves.vacant in
    let keeps = subst (λ (k : SeatParts). Keeps s T (seat_parts k)) is but.seated.keeps in
    let placed = leave_places p i seat new latch but.places there out left vacant in
    record {
      moment = but.at;
      distinct = but.distinct;
      each = of_each s (set p.seats i new) c (λ d. find_own d (all_of p w)) (λ d. find_in d book)
          (stands_for_self s (set p.seats i new) c but.entries T (find_own c (all_of p w)) (find_in c book) (Gone leaves.account) but.own but.trace
          (leaves.put_down c ∙ put_down_same c (Some (Gone leaves.account)) (find_in c p.book))
          (record { gone = gone; tells = leaves.tells s T keeps }))
          (λ d away.
          subst (λ (a : Option Admitted). StandsForOne s (set p.seats i new) d (find_own d (all_of p w)) a) (sym (leaves.put_down d ∙ put_down_other c d (Some (Gone leaves.account)) (find_in d p.book) away))
          (others_stay s p.seats (set p.seats i new) c d i T (find_own d (all_of p w)) (find_in d p.book) but.seated away (λ j other. get-set_other p.seats i j new other) (but.others d away)));
      counted = omega (
        arith,
        ap count_out left,
        count_left p.latch i (out_is_below p.latch i out) out,
        but.counts,
        ap {B = ℕ} (λ (v : Bool). cond v 1 0) gone,
      );
      places = record {
        each = placed.each;
        seats = placed.seats;
        latch = placed.latch;
      };
      tenancies = leaves_adds s (all_of p w) i p.seats seat new there (but.places.each i seat there).slot
          (sym (stands_open T seat.place.live.processor keeps.lives.serves.processor) ∙ gone_closed T gone) vacant leaves.visits but.tenancies;
    }

-- ---- either

pub when_gone : (gone : Bool) (X Y : Type 0) → gone ≡ true → X → MatchBool gone X Y
when_gone gone X Y is x = subst (λ (v : Bool). MatchBool v X Y) (sym is) x

pub retires_right : (w : List Step) (c i : ℕ) (T : Trace) (p : WorldParts) (seat new : SeatParts) (latch : List Bool) (book : List (ℕ × Admitted)) → StandsBut c i T w p → slice_get p.seats i ≡ Some seat
    → Retires c seat p.latch p.book new latch book → StandsFor w (record p { seats = set p.seats i new; latch = latch; book = book })
retires_right w c i T p seat new latch book but there retires =
    let is : but.seated.seat ≡ seat = some but.seated.seat seat (sym but.seated.there ∙ there) in
    let lives = (subst (λ (k : SeatParts). Keeps p.terms T (seat_parts k)) is but.seated.keeps).lives in
    elim (is_gone T) as (λ v. is_gone T ≡ v → MatchBool v (Leaves c seat p.latch p.book new latch book) (Stays seat p.latch p.book new latch book) → StandsFor w (record p { seats = set p.seats i new; latch = latch; book = book })) [
      | true ↦ λ gone leaves. leaves_now w c i T p seat new latch book but gone there leaves
      | false ↦ λ here stays.
          subst (λ (q : WorldParts). StandsFor w q)
          (λ k. record p {
            seats = (sym (put_back p.seats i seat there) ∙ ap (set p.seats i) (sym stays.seat)) k;
            latch = sym stays.counts k;
            book = sym stays.says k;
          })
          (stays_on w c i T p but here)
    ] refl (retires T lives)
