-- A step of one connection: what is answered, and for which steps the connector stands then.
use Rattle.std.proofs.Common.{◌≡◌, ◌≢◌, ℕ, ◌+◌, Bool, true, false, cond, not, List, [], ◌∷◌, set, Option, Some, None, is_some, option_map, refl, sym, ap, ◌∙◌, subst, arith, ◌⊎◌, inl, inr}
use Rattle.std.specs.Prelude.{slice_get}
use Rattle.std.proofs.lemmas.Bool.{cases_eq}
use Rattle.std.proofs.lemmas.List.{length-set}
use Rattle.cy_event.specs.declared.steps.Reply.{Reply}
use Rattle.cy_event.specs.declared.steps.Step.{Step}
use Rattle.cy_event.specs.declared.steps.Step.TheVariants as step
use Rattle.cy_latch.specs.Numbers.{count_out, is_out}
use Rattle.cy_model.specs.Connections.{History, Kind, add_own, connections, counted, find_own, kind_of, moment, moment_after, own, own_reply, reply_by, with_step}
use Rattle.cy_model.specs.Entries.{Entry, after, on_act, on_event, on_run, trace_of}
use Rattle.cy_model.specs.Marks.{Trace, opened}
use Rattle.cy_model.specs.Outputs.{is_gone}
use Rattle.cy_model.specs.Replies.{Replied, replied_in}
use Rattle.cy_model.proofs.OwnEntries.{own_steps_add_own_entries}
use Rattle.cy_proc.specs.Processors.{is_over_at}
use Rattle.cy_slot.specs.Reaching.{Who}
use Rattle.cy_world.specs.Answered.{AnswersEach, IsSameButRooms, Keeps, SeatParts, entry_by, seat_parts, start}
use Rattle.cy_world.specs.Worlds.{ArePlaces, AreDistinct, IsOwnOf, IsPlaceOf, IsSeatedFor, StandsFor, StandsForOne, WorldParts, find_in}
use Rattle.cy_world.specs.Counts.{AddUp}
use Rattle.cy_world.specs.Places.{CountsHeads, IsInItsSlot, LiveParts, Lives, PlaceParts}
use Rattle.cy_world.specs.declared.terms.Terms.{Terms}
use Rattle.cy_world.specs.declared.world.Admitted.{Admitted}
use Rattle.cy_world.specs.declared.world.Admitted.TheVariants.{Seated, Gone}
use Rattle.cy_world.proofs.Counting.{count_own, distinct_own, one}
use Rattle.cy_world.proofs.Elements.{get-set_other, get-set_same}
use Rattle.cy_world.proofs.Tenants.{entry_adds, same_adds}
use Rattle.cy_world.proofs.Visits.{still_in_slot}

-- ---- a connection that has a place

-- the connections that were admitted
abbrev pub all_of : WorldParts → List Step → List History
all_of p w = connections p.terms.limits p.terms.rules w

-- a number that the book has a place for is that of a connection with entries, which isn't gone
pub record IsFound (s : Terms) (seats : List SeatParts) (c i : ℕ) (o : Option (List (ℕ × Entry))) : Type 0 where
  pub entries : List (ℕ × Entry)
  pub is : o ≡ Some entries
  pub seated : IsSeatedFor s seats c (trace_of s.limits s.rules entries) i
  pub here : is_gone (trace_of s.limits s.rules entries) ≡ false

pub found : (s : Terms) (seats : List SeatParts) (c i : ℕ) (o : Option (List (ℕ × Entry))) (a : Option Admitted) → a ≡ Some (Seated i) → StandsForOne s seats c o a → IsFound s seats c i o
found s seats c i None a is stands = absurd (subst (λ (b : Option Admitted). StandsForOne s seats c None b) is stands)
found s seats c i (Some entries) a is stands =
    let w = subst (λ (b : Option Admitted). StandsForOne s seats c (Some entries) b) is stands in
    record { entries = entries; is = refl; seated = w.0; here = w.1 }

-- ---- the others keep their places

pub some : {X : Type 0} (x y : X) → Some x ≡ Some y → x ≡ y
some x y e = cc

-- two connections have two places
apart : (s : Terms) (seats : List SeatParts) (c d i j : ℕ) (T R : Trace) → IsSeatedFor s seats c T i → IsSeatedFor s seats d R j → d ≢ c → j ≢ i
apart s seats c d i j T R mine other away same =
    let seat : other.seat ≡ mine.seat = some other.seat mine.seat (sym other.there ∙ ap (slice_get seats) same ∙ mine.there) in
    let who : Some d ≡ Some c =
    ap (option_map (λ (w : Who). w.number)) (sym other.who) ∙ ap (λ (k : SeatParts). option_map (λ (w : Who). w.number) k.place.who) seat ∙ ap (option_map (λ (w : Who). w.number)) mine.who in
    away (some d c who)

-- what stands in another place goes on
pub others_stay : (s : Terms) (seats now : List SeatParts) (c d i : ℕ) (T : Trace) (o : Option (List (ℕ × Entry))) (a : Option Admitted) → IsSeatedFor s seats c T i → d ≢ c
    → ((j : ℕ) → j ≢ i → slice_get now j ≡ slice_get seats j) → StandsForOne s seats d o a → StandsForOne s now d o a
others_stay s seats now c d i T None None mine away stay stands = tt
others_stay s seats now c d i T None (Some a) mine away stay stands = absurd stands
others_stay s seats now c d i T (Some es) None mine away stay stands = absurd stands
others_stay s seats now c d i T (Some es) (Some (Gone a)) mine away stay stands = stands
others_stay s seats now c d i T (Some es) (Some (Seated j)) mine away stay stands =
    let w = stands.0 in (
      record {
        seat = w.seat;
        there = stay j (apart s seats c d i j T (trace_of s.limits s.rules es) mine w away) ∙ w.there;
        who = w.who;
        keeps = w.keeps;
      },
      stands.1,
    )

-- ---- an entry

-- Like `StandsFor`, but that the connection of this number, which has this place, may be gone, and is counted still.
pub record StandsBut (c i : ℕ) (T : Trace) (w : List Step) (p : WorldParts) : Type 0 where
  pub at : moment w ≡ start
  pub distinct : AreDistinct (all_of p w)
  pub entries : List (ℕ × Entry)
  pub own : find_own c (all_of p w) ≡ Some entries
  pub trace : trace_of p.terms.limits p.terms.rules entries ≡ T
  pub booked : find_in c p.book ≡ Some (Seated i)
  pub seated : IsSeatedFor p.terms p.seats c T i
  pub others : (d : ℕ) → d ≢ c → StandsForOne p.terms p.seats d (find_own d (all_of p w)) (find_in d p.book)
  pub counts : count_out p.latch ≡ counted p.terms.limits p.terms.rules (all_of p w) + cond (is_gone T) 1 0
  pub places : ArePlaces p
  pub tenancies : AddUp p.terms p.seats (all_of p w)

-- the entry is answered by the definition
pub record TakesEntry (c i : ℕ) (w : List Step) (s : Step) (old : WorldParts) (r : Replied) (new : WorldParts) : Type 0 where
  pub reply : r ≡ reply_by old.terms.limits old.terms.rules (kind_of s) (moment (s ∷ w)) (all_of old w)
  pub trace : Trace
  pub stands : StandsBut c i trace (s ∷ w) new

pub true_is_not_false : true ≡ false → ⊥
true_is_not_false e = cc

pub counts_one : (gone : Bool) (n before now : ℕ) → n ≡ before → now + 1 ≡ before + cond (not gone) 1 0 → n ≡ now + cond gone 1 0
counts_one true n before now same e = omega (arith, same, e)
counts_one false n before now same e = omega (arith, same, e)

-- the places after one of them went on
places_go_on : (p : WorldParts) (i : ℕ) (seat new : SeatParts) → ArePlaces p → slice_get p.seats i ≡ Some seat → new.place.who ≡ seat.place.who → is_some seat.place.who ≡ true
    → is_over_at new.place.live.processor.stage ≡ false → IsInItsSlot new.place → ArePlaces (record p { seats = set p.seats i new })
places_go_on p i seat new places there who some_one kept slot = record {
  each = λ j k at. by_place j k (cases_eq j i) at;
  seats = length-set p.seats i new ∙ places.seats;
  latch = places.latch;
}
  where
    mine : (k : SeatParts) → slice_get (set p.seats i new) i ≡ Some k → IsPlaceOf p.terms i (is_out p.latch i) k
    mine k at =
        let was = places.each i seat there in
        let out : is_out p.latch i ≡ true = sym was.held ∙ some_one in
        let is : new ≡ k = some new k (sym (get-set_same p.seats i seat new there) ∙ at) in
        subst (IsPlaceOf p.terms i (is_out p.latch i)) is (record {
          held = ap is_some who ∙ was.held;
          share = λ w h. was.share w (sym who ∙ h);
          kept = kept;
          slot = slot;
          vacant = λ none. absurd (true_is_not_false (sym out ∙ none));
        })

    by_place : (j : ℕ) (k : SeatParts) → (j ≡ i) ⊎ (j ≡ i → ⊥) → slice_get (set p.seats i new) j ≡ Some k → IsPlaceOf p.terms j (is_out p.latch j) k
    by_place j k (inl e) at =
        subst (λ (n : ℕ). IsPlaceOf p.terms n (is_out p.latch n) k) (sym e) (mine k (subst (λ (n : ℕ). slice_get (set p.seats i new) n ≡ Some k) e at))
    by_place j k (inr other) at = places.each j k (sym (get-set_other p.seats i j new other) ∙ at)

pub entry_stands : (w : List Step) (s : Step) (c i : ℕ) (e : Entry) (p : WorldParts) (seat new : SeatParts) (r : Reply) (into : List ℕ) → kind_of s ≡ own c e → StandsFor w p → find_in c p.book ≡ Some (Seated i)
    → slice_get p.seats i ≡ Some seat → new.place.who ≡ seat.place.who → is_over_at new.place.live.processor.stage ≡ false → CountsHeads seat.place new.place → IsInItsSlot new.place
    → AnswersEach p.terms e (seat_parts seat) r into (seat_parts new) → TakesEntry c i w s p (replied_in r into) (record p { seats = set p.seats i new })
entry_stands w s c i e p seat new r into kind stands booked there who kept counts slot answers =
    let limits = p.terms.limits in
    let rules = p.terms.rules in
    let hs = all_of p w in
    let f = found p.terms p.seats c i (find_own c hs) (find_in c p.book) booked (stands.each c) in
    let T = trace_of limits rules f.entries in
    let is : f.seated.seat ≡ seat = some f.seated.seat seat (sym f.seated.there ∙ there) in
    let keeps = subst (λ (k : SeatParts). Keeps p.terms T (seat_parts k)) is f.seated.keeps in
    let answered = answers T keeps f.here in
    let guest : is_some seat.place.who ≡ true = ap (λ (k : SeatParts). is_some k.place.who) (sym is) ∙ ap is_some f.seated.who in
    let at : moment (s ∷ w) ≡ start = ap (λ (k : Kind). moment_after k (moment w)) kind ∙ stands.moment in
    let all : connections limits rules (s ∷ w) ≡ add_own start c e hs =
    ap (λ (k : Kind). with_step limits rules k (moment (s ∷ w)) hs) kind ∙ ap (λ (t : ℕ). add_own t c e hs) at in
    let more : List (ℕ × Entry) = (start, e) ∷ f.entries in
    let law = own_steps_add_own_entries limits rules w s c e kind in
    let found_now : find_own c (connections limits rules (s ∷ w)) ≡ Some more =
    law.own ∙ ap (option_map (λ (es : List (ℕ × Entry)). (moment w, e) ∷ es)) f.is ∙ ap (λ (t : ℕ). Some ((t, e) ∷ f.entries)) stands.moment in
    let one_was : one limits rules f.entries ≡ 1 = ap (λ (v : Bool). cond (not v) 1 0) f.here in
    let one_more = count_own limits rules start c e hs f.entries stands.distinct f.is in
    record {
      reply = answered.reply ∙ sym (
          ap (λ (k : Kind). reply_by limits rules k (moment (s ∷ w)) hs) kind
          ∙ ap (λ (t : ℕ). reply_by limits rules (own c e) t hs) at
          ∙ ap (λ (o : Option (List (ℕ × Entry))). own_reply limits rules start o e) f.is
          );
      trace = after limits rules start T e;
      stands = record {
        at = at;
        distinct = subst AreDistinct (sym all) (distinct_own start c e hs stands.distinct);
        entries = more;
        own = found_now;
        trace = refl;
        booked = booked;
        seated = record {
          seat = new;
          there = get-set_same p.seats i seat new there;
          who = who ∙ ap (λ (k : SeatParts). k.place.who) (sym is) ∙ f.seated.who;
          keeps = answered.keeps;
        };
        others = λ d away.
            subst (λ (o : Option (List (ℕ × Entry))). StandsForOne p.terms (set p.seats i new) d o (find_in d p.book)) (sym (law.other d away))
            (others_stay p.terms p.seats (set p.seats i new) c d i T (find_own d hs) (find_in d p.book) f.seated away (λ j other. get-set_other p.seats i j new other) (stands.each d));
        counts = counts_one (is_gone (after limits rules start T e)) (count_out p.latch) (counted limits rules hs) (counted limits rules (connections limits rules (s ∷ w))) stands.counted
            (omega (arith, ap (counted limits rules) all, one_more, one_was));
        places = places_go_on p i seat new stands.places there who guest kept slot;
        tenancies = subst (AddUp p.terms (set p.seats i new)) (sym all)
            (entry_adds p.terms hs c i e f.entries p.seats seat new stands.distinct f.is there keeps.lives answered.keeps.lives (stands.places.each i seat there).slot slot guest (ap is_some who ∙ guest) counts stands.tenancies);
      };
    }

-- ---- what is known of the place of a connection

-- the step is an entry of the connection
pub kind_of_own : (c : ℕ) (s : Step) → IsOwnOf c s → kind_of s ≡ own c (entry_by s)
kind_of_own c (step.At t) is = absurd is
kind_of_own c (step.Admit d) is = absurd is
kind_of_own c (step.On d e b) is = ap (λ (n : ℕ). own n (on_event e b)) is
kind_of_own c (step.Run d) is = ap (λ (n : ℕ). own n on_run) is
kind_of_own c (step.Act d a b) is = ap (λ (n : ℕ). own n (on_act a b)) is

-- the book has a place for the number
pub record HasPlace (p : WorldParts) (i : ℕ) : Type 0 where
  pub seat : SeatParts
  pub there : slice_get p.seats i ≡ Some seat
  pub kept : is_over_at seat.place.live.processor.stage ≡ false
  pub guest : is_some seat.place.who ≡ true

pub has_place : (w : List Step) (p : WorldParts) (c i : ℕ) → StandsFor w p → find_in c p.book ≡ Some (Seated i) → HasPlace p i
has_place w p c i stands booked =
    let f = found p.terms p.seats c i (find_own c (all_of p w)) (find_in c p.book) booked (stands.each c) in
    let seat = f.seated.seat in
    record {
      seat = seat;
      there = f.seated.there;
      kept = (stands.places.each i seat f.seated.there).kept;
      guest = ap is_some f.seated.who;
    }

-- where nothing but room changed, all is as it was
same_parts : (seat new : SeatParts) → IsSameButRooms seat new → seat_parts new ≡ seat_parts seat
same_parts seat new same = λ k. record { live = (ap (λ (p : PlaceParts). p.live) same.place) k; written = same.written k }

pub same_place : (s : Terms) (j : ℕ) (out : Bool) (seat new : SeatParts) → IsSameButRooms seat new → IsPlaceOf s j out seat → IsPlaceOf s j out new
same_place s j out seat new same place =
    let who : new.place.who ≡ seat.place.who = ap (λ (p : PlaceParts). p.who) same.place in
    let live : new.place.live ≡ seat.place.live = ap (λ (p : PlaceParts). p.live) same.place in
    record {
      held = ap is_some who ∙ place.held;
      share = λ w h. place.share w (sym who ∙ h);
      kept = ap (λ (l : LiveParts). is_over_at l.processor.stage) live ∙ place.kept;
      slot = still_in_slot seat.place new.place same.place place.slot;
      vacant = λ free.
          let v = place.vacant free in
          record {
            nobody = who ∙ v.nobody;
            lives = subst (Lives ((start, opened) ∷ [])) (sym live) v.lives;
            limits = ap (λ (l : LiveParts). l.limits) live ∙ v.limits;
            moment = ap (λ (l : LiveParts). l.line.moment) live ∙ v.moment;
            kept = ap (λ (l : LiveParts). is_over_at l.processor.stage) live ∙ v.kept;
            slot = still_in_slot seat.place new.place same.place v.slot;
            written = same.written ∙ v.written;
          };
    }

still_one : (p : WorldParts) (i : ℕ) (seat new : SeatParts) (c : ℕ) (o : Option (List (ℕ × Entry))) (a : Option Admitted) → slice_get p.seats i ≡ Some seat → IsSameButRooms seat new
    → StandsForOne p.terms p.seats c o a → StandsForOne p.terms (set p.seats i new) c o a
still_one p i seat new c None None there same stands = tt
still_one p i seat new c None (Some a) there same stands = absurd stands
still_one p i seat new c (Some es) None there same stands = absurd stands
still_one p i seat new c (Some es) (Some (Gone a)) there same stands = stands
still_one p i seat new c (Some es) (Some (Seated j)) there same stands = (by_place (cases_eq j i), stands.1)
  where
    T : Trace
    T = trace_of p.terms.limits p.terms.rules es

    by_place : (j ≡ i) ⊎ (j ≡ i → ⊥) → IsSeatedFor p.terms (set p.seats i new) c T j
    by_place (inl e) =
        let v = stands.0 in
        let is : v.seat ≡ seat = some v.seat seat (sym v.there ∙ ap (slice_get p.seats) e ∙ there) in
        record {
          seat = new;
          there = ap (slice_get (set p.seats i new)) e ∙ get-set_same p.seats i seat new there;
          who = ap (λ (q : PlaceParts). q.who) same.place ∙ ap (λ (k : SeatParts). k.place.who) (sym is) ∙ v.who;
          keeps = subst (Keeps p.terms T) (ap seat_parts is ∙ sym (same_parts seat new same)) v.keeps;
        }
    by_place (inr other) =
        let v = stands.0 in
        record { seat = v.seat; there = get-set_other p.seats i j new other ∙ v.there; who = v.who; keeps = v.keeps }

-- nothing but room changed in a place
pub same_stands : (w : List Step) (p : WorldParts) (i : ℕ) (seat new : SeatParts) → StandsFor w p → slice_get p.seats i ≡ Some seat → IsSameButRooms seat new → StandsFor w (record p { seats = set p.seats i new })
same_stands w p i seat new stands there same = record {
  moment = stands.moment;
  distinct = stands.distinct;
  each = λ c. still_one p i seat new c (find_own c (all_of p w)) (find_in c p.book) there same (stands.each c);
  counted = stands.counted;
  places = record {
    each = λ j k at. by_place j k (cases_eq j i) at;
    seats = length-set p.seats i new ∙ stands.places.seats;
    latch = stands.places.latch;
  };
  tenancies = same_adds p.terms (all_of p w) i p.seats seat new there (ap (λ (q : PlaceParts). q.slot.tenancy) same.place) stands.tenancies;
}
  where
    by_place : (j : ℕ) (k : SeatParts) → (j ≡ i) ⊎ (j ≡ i → ⊥) → slice_get (set p.seats i new) j ≡ Some k → IsPlaceOf p.terms j (is_out p.latch j) k
    by_place j k (inl e) at =
        let is : new ≡ k = some new k (sym (get-set_same p.seats i seat new there) ∙ ap (slice_get (set p.seats i new)) (sym e) ∙ at) in
        subst (IsPlaceOf p.terms j (is_out p.latch j)) is
        (same_place p.terms j (is_out p.latch j) seat new same (stands.places.each j seat (ap (slice_get p.seats) e ∙ there)))
    by_place j k (inr other) at = stands.places.each j k (sym (get-set_other p.seats i j new other) ∙ at)
