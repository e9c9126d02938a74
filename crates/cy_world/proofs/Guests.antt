-- A place is held for a connection of the book alone: as many shares are out as connections are counted, and each of
-- these has a place of its own.
use Rattle.std.proofs.Common.{◌≡◌, ◌≢◌, ℕ, Bool, true, false, cond, not, List, [], ◌∷◌, set, Option, Some, None, is_some, refl, sym, ap, ◌∙◌, subst, arith, ◌⊎◌, inl, inr, ◌==◌, if◌then◌else◌}
use Rattle.std.proofs.lemmas.Bool.{cases_eq, eq-eqb, eqb-true}
use Rattle.cy_event.specs.declared.steps.Step.{Step}
use Rattle.cy_latch.specs.Numbers.{count_out, is_out}
use Rattle.cy_latch.proofs.Sets.{count_left, is_out-set_other, out_is_below}
use Rattle.cy_model.specs.Connections.{History, counted, find_own}
use Rattle.cy_model.specs.Entries.{Entry, trace_of}
use Rattle.cy_model.specs.Outputs.{is_gone}
use Rattle.cy_world.specs.Worlds.{AreDistinct, IsSeatedFor, StandsFor, StandsForOne, WorldParts, find_in}
use Rattle.cy_world.specs.declared.world.Admitted.{Admitted}
use Rattle.cy_world.specs.declared.world.Admitted.TheVariants.{Seated, Gone}
use Rattle.cy_world.proofs.Counting.{count_first, one}
use Rattle.cy_world.proofs.Stepping.{all_of, true_is_not_false}

-- ---- those that are counted

abbrev gone_in : WorldParts → List (ℕ × Entry) → Bool
gone_in p es = is_gone (trace_of p.terms.limits p.terms.rules es)

-- those that aren't gone have places whose shares are out
abbrev AreSeated : WorldParts → List History → List Bool → Type 0
AreSeated p hs latch =
    (d : ℕ) (es : List (ℕ × Entry)) → find_own d hs ≡ Some es → gone_in p es ≡ false
    → (j : ℕ) × (find_in d p.book ≡ Some (Seated j)) × (is_out latch j ≡ true)

seated_by : (p : WorldParts) (d : ℕ) (es : List (ℕ × Entry)) (o : Option Admitted) → StandsForOne p.terms p.seats d (Some es) o → gone_in p es ≡ false
    → (j : ℕ) × (o ≡ Some (Seated j)) × IsSeatedFor p.terms p.seats d (trace_of p.terms.limits p.terms.rules es) j
seated_by p d es None stands here = absurd stands
seated_by p d es (Some (Seated j)) stands here = (j, refl, stands.0)
seated_by p d es (Some (Gone a)) stands here = absurd (true_is_not_false (sym stands.gone ∙ here))

all_seated : (w : List Step) (p : WorldParts) → StandsFor w p → AreSeated p (all_of p w) p.latch
all_seated w p stands d es found here =
    let v = seated_by p d es (find_in d p.book) (subst (λ (o : Option (List (ℕ × Entry))). StandsForOne p.terms p.seats d o (find_in d p.book)) found (stands.each d)) here in
    (v.0, v.1, sym (stands.places.each v.0 v.2.seat v.2.there).held ∙ ap is_some v.2.who)

-- ---- one after another

first_found : (h : History) (hs : List History) → find_own h.number (h ∷ hs) ≡ Some h.entries
first_found h hs = ap (λ (v : Bool). if v then Some h.entries else find_own h.number hs) (eq-eqb h.number h.number refl)

differs : (h : History) (hs : List History) (d : ℕ) (es : List (ℕ × Entry)) → find_own h.number hs ≡ None → find_own d hs ≡ Some es → h.number ≢ d
differs h hs d es none found same =
    let clash : None ≡ Some es = sym none ∙ ap (λ (n : ℕ). find_own n hs) same ∙ found in cc

behind : (h : History) (hs : List History) (d : ℕ) (es : List (ℕ × Entry)) → find_own h.number hs ≡ None → find_own d hs ≡ Some es → find_own d (h ∷ hs) ≡ Some es
behind h hs d es none found =
    elim (h.number == d) as (λ v. h.number == d ≡ v → (if v then Some h.entries else find_own d hs) ≡ Some es) [
      | true ↦ λ q. absurd (differs h hs d es none found (eqb-true h.number d q))
      | false ↦ λ q. found
    ] refl

-- two connections have two places
abbrev pub HavePlacesApart : WorldParts → Type 0
HavePlacesApart p = (c d i j : ℕ) → find_in c p.book ≡ Some (Seated i) → find_in d p.book ≡ Some (Seated j) → c ≢ d → i ≢ j

-- the place of the first one is left, and the others are seated still
still_seated : (p : WorldParts) (h : History) (hs : List History) (latch : List Bool) (i : ℕ) → find_own h.number hs ≡ None → HavePlacesApart p → find_in h.number p.book ≡ Some (Seated i)
    → AreSeated p (h ∷ hs) latch → AreSeated p hs (set latch i false)
still_seated p h hs latch i none apart booked seated d es found here =
    let v = seated d es (behind h hs d es none found) here in
    let away = differs h hs d es none found in
    (v.0, v.1, is_out-set_other latch i v.0 false (apart d h.number v.0 i v.1 booked (λ same. away (sym same))) ∙ v.2)

rest_seated : (p : WorldParts) (h : History) (hs : List History) (latch : List Bool) → find_own h.number hs ≡ None → AreSeated p (h ∷ hs) latch → AreSeated p hs latch
rest_seated p h hs latch none seated d es found here = seated d es (behind h hs d es none found) here

-- some connection has the place
abbrev IsBooked : WorldParts → ℕ → Type 0
IsBooked p i = (c : ℕ) × (find_in c p.book ≡ Some (Seated i))

it_or_another : (p : WorldParts) (c i j : ℕ) → (i ≡ j) ⊎ (i ≡ j → ⊥) → find_in c p.book ≡ Some (Seated j) → (i ≢ j → IsBooked p i) → IsBooked p i
it_or_another p c i j (inl same) booked next = (c, booked ∙ ap (λ (n : ℕ). Some (Seated n)) (sym same))
it_or_another p c i j (inr other) booked next = next other

booked_in : (p : WorldParts) (hs : List History) (latch : List Bool) (i : ℕ) → HavePlacesApart p → AreDistinct hs → AreSeated p hs latch
    → count_out latch ≡ counted p.terms.limits p.terms.rules hs → is_out latch i ≡ true → IsBooked p i
booked_in p [] latch i apart distinct seated count out =
    let none : counted p.terms.limits p.terms.rules [] ≡ 0 = refl in
    absurd (omega (arith, count_left latch i (out_is_below latch i out) out, count, none))
booked_in p (h ∷ hs) latch i apart distinct seated count out =
    let limits = p.terms.limits in
    let rules = p.terms.rules in
    elim (gone_in p h.entries) as (λ v. gone_in p h.entries ≡ v → IsBooked p i) [
      | true ↦ λ q.
          let counts : one limits rules h.entries ≡ 0 = ap (λ (v : Bool). cond (not v) 1 0) q in
          booked_in p hs latch i apart distinct.1 (rest_seated p h hs latch distinct.0 seated)
          (omega (arith, count, count_first limits rules h hs, counts)) out
      | false ↦ λ q.
          let counts : one limits rules h.entries ≡ 1 = ap (λ (v : Bool). cond (not v) 1 0) q in
          let mine = seated h.number h.entries (first_found h hs) q in
          it_or_another p h.number i mine.0 (cases_eq i mine.0) mine.1 (λ other.
          booked_in p hs (set latch mine.0 false) i apart distinct.1
          (still_seated p h hs latch mine.0 distinct.0 apart mine.1 seated)
          (omega (arith, count, count_first limits rules h hs, counts, count_left latch mine.0 (out_is_below latch mine.0 mine.2) mine.2))
          (is_out-set_other latch mine.0 i false other ∙ out))
    ] refl

pub out_is_booked : (w : List Step) (p : WorldParts) (i : ℕ) → StandsFor w p → HavePlacesApart p → is_out p.latch i ≡ true → IsBooked p i
out_is_booked w p i stands apart out = booked_in p (all_of p w) p.latch i apart stands.distinct (all_seated w p stands) stands.counted out
