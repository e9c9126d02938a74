-- An admission: the connector stands for the steps with it, whether one may still be counted or not.
use Rattle.std.proofs.Common.{◌≡◌, ◌≢◌, ◌≤◌, ◌<◌, ℕ, ◌+◌, Bool, true, false, cond, List, [], ◌∷◌, ◌++◌, length, set, Option, Some, None, is_some, refl, sym, ap, ◌∙◌, subst, arith, ◌⊎◌, inl, inr, if◌then◌else◌}
use Rattle.std.specs.Prelude.{slice_get}
use Rattle.std.proofs.lemmas.Bool.{cases_eq, le-ltb, lt-ltb}
use Rattle.std.proofs.lemmas.List.{length-set}
use Rattle.std.proofs.lemmas.List.Sums.{sum_by-cons}
use Rattle.cy_event.specs.declared.steps.Reply.TheVariants as reply
use Rattle.cy_event.specs.declared.steps.Step.{Step}
use Rattle.cy_event.specs.declared.steps.Step.TheVariants as step
use Rattle.cy_latch.specs.Numbers.{count_out, is_out}
use Rattle.cy_latch.proofs.Sets.{count_drawn, is_out-set_other, is_out-set_same}
use Rattle.cy_model.specs.Connections.{History, admission, admits, connections, counted, find_own, moment, reply_by}
use Rattle.cy_model.specs.Entries.{Entry, after, opening}
use Rattle.cy_model.specs.Outputs.{is_gone}
use Rattle.cy_model.specs.Replies.{plain}
use Rattle.cy_model.proofs.OwnEntries.{admissions_open_one, full_opens_none}
use Rattle.cy_slot.specs.Reaching.{Who}
use Rattle.cy_proc.specs.Processors.{is_over_at}
use Rattle.cy_world.specs.Answered.{Keeps, SeatParts, seat_parts, start}
use Rattle.cy_world.specs.Counts.{AddUp}
use Rattle.cy_world.specs.Places.{CountsHeads, IsInItsSlot}
use Rattle.cy_world.specs.Worlds.{ArePlaces, AreDistinct, IsPlaceOf, PutsDown, StandsFor, StandsForOne, TakesStep, WorldParts, find_in}
use Rattle.cy_world.specs.declared.terms.Terms.{Terms}
use Rattle.cy_world.specs.declared.world.Admitted.{Admitted}
use Rattle.cy_world.specs.declared.world.Admitted.TheVariants.{Seated, Gone}
use Rattle.cy_world.proofs.Counting.{count_last, distinct_last, one}
use Rattle.cy_world.proofs.Elements.{get-set_other, get-set_same, put_down_other, put_down_same}
use Rattle.cy_world.proofs.Retiring.{no_who}
use Rattle.cy_world.proofs.Stepping.{StandsBut, all_of, counts_one, some, true_is_not_false}
use Rattle.cy_world.proofs.Tenants.{admission_adds}

-- a number that isn't in the book is that of no connection
pub none_found : (s : Terms) (seats : List SeatParts) (c : ℕ) (o : Option (List (ℕ × Entry))) (a : Option Admitted) → a ≡ None → StandsForOne s seats c o a → o ≡ None
none_found s seats c None a none stands = refl
none_found s seats c (Some es) a none stands = absurd (subst (λ (b : Option Admitted). StandsForOne s seats c (Some es) b) none stands)

-- no more numbers are out than there are
pub count_within : (latch : List Bool) → count_out latch ≤ length latch
count_within [] = omega arith
count_within (v ∷ vs) = omega (arith, sum_by-cons (λ (b : Bool). cond b 1 0) v vs, count_within vs, at_most_one v)
  where
    at_most_one : (b : Bool) → cond b 1 0 ≤ 1
    at_most_one true = omega arith
    at_most_one false = omega arith

-- where a number can be drawn, not all are out
may_count : (latch : List Bool) (n : ℕ) → n < length latch → is_out latch n ≡ false → count_out latch < length latch
may_count latch n below free = omega (arith, count_drawn latch n below free, count_within (set latch n true), length-set latch n true)

-- ---- all are counted that may be

pub full_stands : (w : List Step) (c : ℕ) (p : WorldParts) → StandsFor w p → count_out p.latch ≡ length p.latch → TakesStep w (step.Admit c) p (plain (reply.Full (length p.latch))) p
full_stands w c p stands all_out =
    let limits = p.terms.limits in
    let rules = p.terms.rules in
    let hs = all_of p w in
    let count : counted limits rules hs ≡ length p.latch = sym stands.counted ∙ all_out in
    let none : admits limits rules hs ≡ false = le-ltb (counted limits rules hs) limits.max_connections (omega (arith, count, stands.places.latch)) in
    let replied : reply_by limits rules (admission c) (moment w) hs ≡ plain (reply.Full (counted limits rules hs)) =
    ap (λ (v : Bool). plain (if v then reply.Entered else reply.Full (counted limits rules hs))) none in
    let same : connections limits rules (step.Admit c ∷ w) ≡ hs = full_opens_none limits rules w c (counted limits rules hs) replied in
    record {
      reply = ap (λ (n : ℕ). plain (reply.Full n)) (sym count) ∙ sym replied;
      stands = record {
        moment = stands.moment;
        distinct = subst AreDistinct (sym same) stands.distinct;
        each = λ d. subst (λ (gs : List History). StandsForOne p.terms p.seats d (find_own d gs) (find_in d p.book)) (sym same) (stands.each d);
        counted = stands.counted ∙ ap (counted limits rules) (sym same);
        places = stands.places;
        tenancies = subst (AddUp p.terms p.seats) (sym same) stands.tenancies;
      };
    }

-- ---- one more is counted

-- a place that was held for nobody is none of the others'
others_stay : (s : Terms) (seats : List SeatParts) (d n : ℕ) (seat new : SeatParts) (o : Option (List (ℕ × Entry))) (a : Option Admitted) → slice_get seats n ≡ Some seat → seat.place.who ≡ None
    → StandsForOne s seats d o a → StandsForOne s (set seats n new) d o a
others_stay s seats d n seat new None None there nobody stands = tt
others_stay s seats d n seat new None (Some a) there nobody stands = absurd stands
others_stay s seats d n seat new (Some es) None there nobody stands = absurd stands
others_stay s seats d n seat new (Some es) (Some (Gone a)) there nobody stands = stands
others_stay s seats d n seat new (Some es) (Some (Seated j)) there nobody stands =
    let v = stands.0 in
    let apart : j ≢ n = λ e.
    no_who seat.place.who (record { share = j; number = d }) nobody
    (ap (λ (k : SeatParts). k.place.who) (some seat v.seat (sym there ∙ ap (slice_get seats) (sym e) ∙ v.there)) ∙ v.who) in
    (record { seat = v.seat; there = get-set_other seats n j new apart ∙ v.there; who = v.who; keeps = v.keeps }, stands.1)

share_is : (o : Option Who) (w v : Who) → o ≡ Some w → o ≡ Some v → v.share ≡ w.share
share_is o w v one other = ap (λ (x : Who). x.share) (some v w (sym other ∙ one))

admit_places : (p : WorldParts) (c n : ℕ) (seat new : SeatParts) (latch : List Bool) → ArePlaces p → slice_get p.seats n ≡ Some seat → n < length p.latch → latch ≡ set p.latch n true
    → new.place.who ≡ Some (record { share = n; number = c }) → is_over_at new.place.live.processor.stage ≡ false → IsInItsSlot new.place → ArePlaces (record p { seats = set p.seats n new; latch = latch })
admit_places p c n seat new latch places there below drawn who kept slot = record {
  each = λ j k at. by_place j k (cases_eq j n) at;
  seats = length-set p.seats n new ∙ places.seats;
  latch = ap length drawn ∙ length-set p.latch n true ∙ places.latch;
}
  where
    mine : (k : SeatParts) → slice_get (set p.seats n new) n ≡ Some k → IsPlaceOf p.terms n (is_out latch n) k
    mine k at =
        let is : new ≡ k = some new k (sym (get-set_same p.seats n seat new there) ∙ at) in
        let out : is_out latch n ≡ true = ap (λ (l : List Bool). is_out l n) drawn ∙ is_out-set_same p.latch n true below in
        subst (IsPlaceOf p.terms n (is_out latch n)) is (record {
          held = ap is_some who ∙ sym out;
          share = λ v h. share_is new.place.who (record { share = n; number = c }) v who h;
          kept = kept;
          slot = slot;
          vacant = λ none. absurd (true_is_not_false (sym out ∙ none));
        })

    by_place : (j : ℕ) (k : SeatParts) → (j ≡ n) ⊎ (j ≡ n → ⊥) → slice_get (set p.seats n new) j ≡ Some k → IsPlaceOf p.terms j (is_out latch j) k
    by_place j k (inl e) at =
        subst (λ (m : ℕ). IsPlaceOf p.terms m (is_out latch m) k) (sym e) (mine k (subst (λ (m : ℕ). slice_get (set p.seats n new) m ≡ Some k) e at))
    by_place j k (inr other) at =
        subst (λ (v : Bool). IsPlaceOf p.terms j v k) (sym (ap (λ (l : List Bool). is_out l j) drawn ∙ is_out-set_other p.latch n j true other))
        (places.each j k (sym (get-set_other p.seats n j new other) ∙ at))

-- the admission is accepted
pub record TakesAdmission (w : List Step) (c n : ℕ) (old new : WorldParts) : Type 0 where
  pub reply : plain reply.Entered ≡ reply_by old.terms.limits old.terms.rules (admission c) (moment w) (all_of old w)
  pub stands : StandsBut c n (after old.terms.limits old.terms.rules start [] opening) (step.Admit c ∷ w) new

pub admission_stands : (w : List Step) (c n : ℕ) (p : WorldParts) (seat new : SeatParts) (latch : List Bool) (book : List (ℕ × Admitted)) → StandsFor w p → find_in c p.book ≡ None
    → n < length p.latch → is_out p.latch n ≡ false → latch ≡ set p.latch n true → slice_get p.seats n ≡ Some seat → new.place.who ≡ Some (record { share = n; number = c })
    → Keeps p.terms (after p.terms.limits p.terms.rules start [] opening) (seat_parts new) → CountsHeads seat.place new.place → IsInItsSlot new.place → PutsDown c (Seated n) p.book book
    → TakesAdmission w c n p (record p { seats = set p.seats n new; latch = latch; book = book })
admission_stands w c n p seat new latch book stands unknown below free drawn there who keeps counts slot puts =
    let s = p.terms in
    let limits = s.limits in
    let rules = s.rules in
    let hs = all_of p w in
    let T = after limits rules start [] opening in
    let entry : History = record { number = c; entries = (start, opening) ∷ [] } in
    let less : counted limits rules hs < limits.max_connections = omega (arith, may_count p.latch n below free, stands.counted, stands.places.latch) in
    let admitted : admits limits rules hs ≡ true = lt-ltb (counted limits rules hs) limits.max_connections less in
    let replied : reply_by limits rules (admission c) (moment w) hs ≡ plain reply.Entered =
    ap (λ (v : Bool). plain (if v then reply.Entered else reply.Full (counted limits rules hs))) admitted in
    let all : connections limits rules (step.Admit c ∷ w) ≡ hs ++ entry ∷ [] =
    ap (λ (v : Bool). if v then hs ++ record { number = c; entries = (moment w, opening) ∷ [] } ∷ [] else hs) admitted
    ∙ ap (λ (t : ℕ). hs ++ record { number = c; entries = (t, opening) ∷ [] } ∷ []) stands.moment in
    let none : find_own c hs ≡ None = none_found s p.seats c (find_own c hs) (find_in c p.book) unknown (stands.each c) in
    let law = admissions_open_one limits rules w c replied in
    let vacant = (stands.places.each n seat there).vacant free in
    let nobody : seat.place.who ≡ None = vacant.nobody in
    let placed = admit_places p c n seat new latch stands.places there below drawn who keeps.kept slot in
    record {
      reply = sym replied;
      stands = record {
        at = stands.moment;
        distinct = subst AreDistinct (sym all) (distinct_last entry hs stands.distinct none);
        entries = (start, opening) ∷ [];
        own = law.own none ∙ ap (λ (t : ℕ). Some ((t, opening) ∷ [])) stands.moment;
        trace = refl;
        booked = puts c ∙ put_down_same c (Some (Seated n)) (find_in c p.book);
        seated = record { seat = new; there = get-set_same p.seats n seat new there; who = who; keeps = keeps };
        others = λ d away.
            subst (λ (o : Option (List (ℕ × Entry))). StandsForOne s (set p.seats n new) d o (find_in d book)) (sym (law.other d away))
            (subst (λ (a : Option Admitted). StandsForOne s (set p.seats n new) d (find_own d hs) a) (sym (puts d ∙ put_down_other c d (Some (Seated n)) (find_in d p.book) away))
            (others_stay s p.seats d n seat new (find_own d hs) (find_in d p.book) there nobody (stands.each d)));
        counts = counts_one (is_gone T) (count_out latch) (counted limits rules hs + 1) (counted limits rules (connections limits rules (step.Admit c ∷ w)))
            (omega (arith, ap count_out drawn, count_drawn p.latch n below free, stands.counted))
            (omega (arith, ap (counted limits rules) all, count_last limits rules hs entry));
        places = record {
          each = placed.each;
          seats = placed.seats;
          latch = placed.latch;
        };
        tenancies = subst (AddUp s (set p.seats n new)) (sym all) (admission_adds s hs entry n p.seats seat new there vacant keeps.lives slot (ap is_some who) counts stands.tenancies);
      };
    }
