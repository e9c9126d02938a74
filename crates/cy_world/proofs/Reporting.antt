-- The report of a run: steps that are taken one after another, and what is told of the connections then.
use Rattle.std.proofs.Common.{◌≡◌, ◌<◌, ◌≤◌, ℕ, zero, suc, ◌+◌, Bool, true, false, ◌||◌, List, [], ◌∷◌, ◌++◌, append_assoc, length, length-append, map, reverse, take, drop, take-append-drop, get_or, Option, Some, None, is_some, option_map, unwrap_or, flat_map, refl, sym, ap, ◌∙◌, subst, arith, ◌==◌, if◌then◌else◌}
use Rattle.std.specs.Prelude.{slice_get}
use Rattle.std.specs.List.{list_any}
use Rattle.std.specs.List.Sorted.{IsStrictlySortedBy}
use Rattle.std.specs.Map.{keys_of}
use Rattle.std.specs.Ordering.{nat_cmp}
use Rattle.std.proofs.lemmas.List.{append-nil, length-reverse, length-take-le, reverse-append, take_all, take_more}
use Rattle.std.proofs.lemmas.Option.{get_or_from_slice_get, slice_get_within}
use Rattle.cy_event.specs.declared.limits.Limits.{Limits}
use Rattle.cy_event.specs.declared.steps.Step.{Step}
use Rattle.cy_event.specs.declared.steps.Step.TheVariants as step
use Rattle.cy_map.specs.declared.rule.Rule.{Rule}
use Rattle.cy_model.specs.Connections.{History, admits, connections, find_own, kind_of, moment, replies, reply_by, with_entry}
use Rattle.cy_model.specs.Entries.{Entry, on_act, on_event, on_run, opening, tick, trace_of}
use Rattle.cy_model.specs.Marks.{Trace}
use Rattle.cy_model.specs.Replies.{Replied}
use Rattle.cy_model.specs.Reports.{reply_line, reply_lines, report, trace_text}
use Rattle.cy_model.specs.Steps.{IsNewNumber, IsValid}
use Rattle.cy_proc.specs.Processors.{is_over_at}
use Rattle.cy_world.specs.Answered.{Keeps, SeatParts, Tells, seat_parts}
use Rattle.cy_world.specs.Reporting.{connections_text, text_of}
use Rattle.cy_world.specs.Told.{is_clock}
use Rattle.cy_world.specs.Worlds.{CanTake, IsWorld, StandsFor, StandsForAdmitted, StandsForOne, WorldParts, find_in}
use Rattle.cy_world.specs.declared.seat.Account.{Account}
use Rattle.cy_world.specs.declared.terms.Terms.{Terms}
use Rattle.cy_world.specs.declared.world.Admitted.{Admitted}
use Rattle.cy_world.specs.declared.world.Admitted.TheVariants.{Seated, Gone}
use Rattle.cy_world.proofs.Counting.{none_last, still_none}
use Rattle.cy_world.proofs.Numbers.{told_by_book}

-- ---- steps that can be taken

none_ticked : (t c : ℕ) (e : Entry) (hs : List History) → find_own c hs ≡ None → find_own c (map (with_entry t e) hs) ≡ None
none_ticked t c e [] none = refl
none_ticked t c e (h ∷ hs) none =
    elim (h.number == c) as (λ v. (if v then Some h.entries else find_own c hs) ≡ None → (if v then Some ((t, e) ∷ h.entries) else find_own c (map (with_entry t e) hs)) ≡ None) [
      | true ↦ λ q. cc
      | false ↦ λ q. none_ticked t c e hs q
    ] none

-- a number that no step admits is that of no connection
none_new : (limits : Limits) (rules : List Rule) (c : ℕ) (w : List Step) → IsNewNumber c w → find_own c (connections limits rules w) ≡ None
none_new limits rules c [] new = refl
none_new limits rules c (step.At t ∷ w) new = none_ticked t c tick (connections limits rules w) (none_new limits rules c w new)
none_new limits rules c (step.Admit d ∷ w) new =
    let hs = connections limits rules w in
    let none = none_new limits rules c w new.1 in
    let entry : History = record { number = d; entries = (moment w, opening) ∷ [] } in
    elim (admits limits rules hs) as (λ v. find_own c (if v then hs ++ entry ∷ [] else hs) ≡ None) [
      | true ↦ none_last c entry hs (λ e. new.0 (sym e)) none
      | false ↦ none
    ]
none_new limits rules c (step.On d e b ∷ w) new = still_none (moment w) d c (on_event e b) (connections limits rules w) (none_new limits rules c w new)
none_new limits rules c (step.Run d ∷ w) new = still_none (moment w) d c on_run (connections limits rules w) (none_new limits rules c w new)
none_new limits rules c (step.Act d a b ∷ w) new = still_none (moment w) d c (on_act a b) (connections limits rules w) (none_new limits rules c w new)

-- the book has the numbers of the connections
both_known : (s : Terms) (seats : List SeatParts) (c : ℕ) (o : Option (List (ℕ × Entry))) (a : Option Admitted) → StandsForOne s seats c o a → is_some a ≡ is_some o
both_known s seats c None None stands = refl
both_known s seats c None (Some a) stands = absurd stands
both_known s seats c (Some entries) None stands = absurd stands
both_known s seats c (Some entries) (Some a) stands = refl

none_booked : (o : Option (List (ℕ × Entry))) (a : Option Admitted) → is_some a ≡ is_some o → o ≡ None → a ≡ None
none_booked o None same none = refl
none_booked o (Some a) same none = let clash : true ≡ false = same ∙ ap is_some none in cc

pub can_take : (s : Step) (w : List Step) (p : WorldParts) → IsValid (s ∷ w) → is_clock s ≡ false → StandsFor w p → CanTake s p
can_take (step.At t) w p valid none stands = cc
can_take (step.Admit c) w p valid none stands =
    let o = find_own c (connections p.terms.limits p.terms.rules w) in
    none_booked o (find_in c p.book) (both_known p.terms p.seats c o (find_in c p.book) (stands.each c)) (none_new p.terms.limits p.terms.rules c w valid.1.1)
can_take (step.On c e b) w p valid none stands = tt
can_take (step.Run c) w p valid none stands = tt
can_take (step.Act c a b) w p valid none stands = valid.1.1

-- one step more, the newest first
pub reverse-take_more : (steps : List Step) (i : ℕ) (s : Step) → i < length steps → s ≡ get_or steps i s → reverse (take (i + 1) steps) ≡ s ∷ reverse (take i steps)
reverse-take_more steps i s h is =
    ap reverse (take_more steps i s h)
    ∙ reverse-append (take i steps) (get_or steps i s ∷ [])
    ∙ ap (λ (u : Step). u ∷ reverse (take i steps)) (sym is)

valid_before : (u w : List Step) → IsValid (u ++ w) → IsValid w
valid_before [] w valid = valid
valid_before (s ∷ u) w valid = valid_before u w valid.0

valid_so_far : (steps : List Step) (i : ℕ) → IsValid (reverse steps) → IsValid (reverse (take i steps))
valid_so_far steps i valid =
    valid_before (reverse (drop i steps)) (reverse (take i steps))
    (subst IsValid (ap reverse (sym (take-append-drop i steps)) ∙ reverse-append (take i steps) (drop i steps)) valid)

neither : (a b : Bool) → (a || b) ≡ false → (a ≡ false) × (b ≡ false)
neither true b none = cc
neither false b none = (refl, none)

no_clock : (steps : List Step) (i : ℕ) (s : Step) → i < length steps → list_any is_clock steps ≡ false → is_clock (get_or steps i s) ≡ false
no_clock [] i s h none = absurd (omega arith)
no_clock (u ∷ us) zero s h none = (neither (is_clock u) (list_any is_clock us) none).0
no_clock (u ∷ us) (suc i) s h none = no_clock us i s (omega arith) (neither (is_clock u) (list_any is_clock us) none).1

-- the next of valid steps can be taken
pub can_take_next : (steps : List Step) (i : ℕ) (s : Step) (p : WorldParts) → IsValid (reverse steps) → list_any is_clock steps ≡ false → i < length steps → s ≡ get_or steps i s
    → StandsFor (reverse (take i steps)) p → CanTake s p
can_take_next steps i s p valid none h is stands =
    can_take s (reverse (take i steps)) p
    (subst IsValid (reverse-take_more steps i s h is) (valid_so_far steps (i + 1) valid))
    (ap is_clock is ∙ no_clock steps i s h none)
    stands

-- ---- replies

lines_last : (n : ℕ) (rs : List Replied) (r : Replied) → reply_lines n (rs ++ r ∷ []) ≡ reply_lines n rs ++ reply_line (n + length rs) r
lines_last n [] r = append-nil (reply_line n r) ∙ ap (λ (k : ℕ). reply_line k r) (omega arith)
lines_last n (q ∷ rs) r =
    ap (λ (u : List ℕ). reply_line n q ++ u) (lines_last (n + 1) rs r)
    ∙ sym (append_assoc (reply_line n q) (reply_lines (n + 1) rs) (reply_line (n + 1 + length rs) r))
    ∙ ap (λ (k : ℕ). (reply_line n q ++ reply_lines (n + 1) rs) ++ reply_line k r) (omega (arith, length-cons q rs))
  where
    length-cons : (x : Replied) (xs : List Replied) → length (x ∷ xs) ≡ 1 + length xs
    length-cons x xs = omega arith

length_replies : (limits : Limits) (rules : List Rule) (w : List Step) → length (replies limits rules w) ≡ length w
length_replies limits rules [] = refl
length_replies limits rules (s ∷ w) =
    let r = reply_by limits rules (kind_of s) (moment (s ∷ w)) (connections limits rules w) in
    omega (arith, length-append (replies limits rules w) (r ∷ []), length_replies limits rules w)

-- the line of one step more
pub reply_lines_more : (limits : Limits) (rules : List Rule) (s : Step) (w : List Step) (i : ℕ) (r : Replied) → length w ≡ i
    → r ≡ reply_by limits rules (kind_of s) (moment (s ∷ w)) (connections limits rules w)
    → reply_lines 1 (replies limits rules w) ++ reply_line (i + 1) r ≡ reply_lines 1 (replies limits rules (s ∷ w))
reply_lines_more limits rules s w i r count is =
    ap (λ (q : Replied). reply_lines 1 (replies limits rules w) ++ reply_line (i + 1) q) is
    ∙ ap (λ (k : ℕ). reply_lines 1 (replies limits rules w) ++ reply_line k (reply_by limits rules (kind_of s) (moment (s ∷ w)) (connections limits rules w)))
    (omega (arith, length_replies limits rules w, count))
    ∙ sym (lines_last 1 (replies limits rules w) (reply_by limits rules (kind_of s) (moment (s ∷ w)) (connections limits rules w)))

-- ---- connections

-- the lines by the numbers of the book are those of all connections
pub book_tells : (w : List Step) (p : WorldParts) → StandsFor w p → IsStrictlySortedBy nat_cmp (keys_of p.book)
    → flat_map (λ (e : ℕ × Admitted). text_of p w e.0) p.book ≡ connections_text p w
book_tells w p stands sorted =
    let hs = connections p.terms.limits p.terms.rules w in
    told_by_book p.terms.limits p.terms.rules hs p.book stands.distinct sorted
    (λ c. both_known p.terms p.seats c (find_own c hs) (find_in c p.book) (stands.each c))

-- the lines of all steps, and then those of all connections
pub report_is : (steps : List Step) (i : ℕ) (p : WorldParts) (s : Terms) (before text : List ℕ) → length steps ≤ i → p.terms ≡ s
    → before ≡ reply_lines 1 (replies p.terms.limits p.terms.rules (reverse (take i steps))) → text ≡ before ++ connections_text p (reverse (take i steps)) → text ≡ report s.limits s.rules steps
unfolding report
report_is steps i p s before text h terms replied told =
    told
    ∙ ap (λ (u : List ℕ). u ++ connections_text p (reverse (take i steps))) replied
    ∙ ap (λ (us : List Step). reply_lines 1 (replies p.terms.limits p.terms.rules (reverse us)) ++ connections_text p (reverse us)) (take_all i steps h)
    ∙ ap (λ (q : Terms). report q.limits q.rules steps) terms

pub length_so_far : (steps : List Step) (i : ℕ) → i < length steps → length (reverse (take i steps)) ≡ i
length_so_far steps i h = length-reverse (take i steps) ∙ length-take-le i steps (omega (arith, h))

-- ---- one connection of the book

-- what the book says of it is right
pub record IsKnown (w : List Step) (p : WorldParts) (c : ℕ) (a : Admitted) : Type 0 where
  pub entries : List (ℕ × Entry)
  pub is : find_own c (connections p.terms.limits p.terms.rules w) ≡ Some entries
  pub stands : StandsForAdmitted p.terms p.seats c (trace_of p.terms.limits p.terms.rules entries) a

pub known : (w : List Step) (p : WorldParts) (c : ℕ) (a : Admitted) → StandsFor w p → find_in c p.book ≡ Some a → IsKnown w p c a
known w p c a stands booked =
    by_entries (find_own c (connections p.terms.limits p.terms.rules w)) refl
    (subst (λ (b : Option Admitted). StandsForOne p.terms p.seats c (find_own c (connections p.terms.limits p.terms.rules w)) b) booked (stands.each c))
  where
    by_entries : (o : Option (List (ℕ × Entry))) → find_own c (connections p.terms.limits p.terms.rules w) ≡ o → StandsForOne p.terms p.seats c o (Some a) → IsKnown w p c a
    by_entries None is one = absurd one
    by_entries (Some entries) is one = record { entries = entries; is = is; stands = one }

-- its lines are those of its trace
pub known_text : (w : List Step) (p : WorldParts) (c : ℕ) (a : Admitted) (k : IsKnown w p c a) → text_of p w c ≡ trace_text c (trace_of p.terms.limits p.terms.rules k.entries)
known_text w p c a k =
    ap (λ (o : Option (List (ℕ × Entry))). unwrap_or (option_map (λ (entries : List (ℕ × Entry)). trace_text c (trace_of p.terms.limits p.terms.rules entries)) o) []) k.is

-- the place that the book names
pub record IsPlaceAt (p : WorldParts) (i : ℕ) : Type 0 where
  pub within : i < length p.seats
  pub kept : (seat : SeatParts) → seat ≡ get_or p.seats i seat → is_over_at seat.place.live.processor.stage ≡ false

seat_is : (seats : List SeatParts) (i : ℕ) (one seat : SeatParts) → slice_get seats i ≡ Some one → seat ≡ get_or seats i seat → seat ≡ one
seat_is seats i one seat there is = is ∙ get_or_from_slice_get seats i one seat there

pub place_known : (p : WorldParts) (c i : ℕ) → IsWorld p → find_in c p.book ≡ Some (Seated i) → IsPlaceAt p i
place_known p c i world booked =
    let v = (known world.0 p c (Seated i) world.1 booked).stands.0 in
    record {
      within = slice_get_within p.seats i v.seat v.there;
      kept = λ seat is. ap (λ (k : SeatParts). is_over_at k.place.live.processor.stage) (seat_is p.seats i v.seat seat v.there is) ∙ v.keeps.kept;
    }

-- what was told of the place is told of the connection
pub seated_text : (w : List Step) (p : WorldParts) (c i : ℕ) (seat : SeatParts) (before text : List ℕ) → StandsFor w p → find_in c p.book ≡ Some (Seated i) → seat ≡ get_or p.seats i seat
    → ((s : Terms) (T : Trace) → Keeps s T (seat_parts seat) → text ≡ before ++ trace_text c T) → text ≡ before ++ text_of p w c
seated_text w p c i seat before text stands booked is told =
    let k = known w p c (Seated i) stands booked in
    let v = k.stands.0 in
    let T = trace_of p.terms.limits p.terms.rules k.entries in
    told p.terms T (subst (λ (one : SeatParts). Keeps p.terms T (seat_parts one)) (sym (seat_is p.seats i v.seat seat v.there is)) v.keeps)
    ∙ ap (λ (u : List ℕ). before ++ u) (sym (known_text w p c (Seated i) k))

pub gone_text : (w : List Step) (p : WorldParts) (c : ℕ) (a : Account) (before text : List ℕ) → StandsFor w p → find_in c p.book ≡ Some (Gone a)
    → ((T : Trace) → Tells T a → text ≡ before ++ trace_text c T) → text ≡ before ++ text_of p w c
gone_text w p c a before text stands booked told =
    let k = known w p c (Gone a) stands booked in
    told (trace_of p.terms.limits p.terms.rules k.entries) k.stands.tells
    ∙ ap (λ (u : List ℕ). before ++ u) (sym (known_text w p c (Gone a) k))
