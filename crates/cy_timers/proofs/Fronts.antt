-- What is due stands at the front of the queue.
use Rattle.std.proofs.Common.{◌≡◌, ℕ, ◌+◌, ◌<◌, ◌≤◌, Bool, true, cond, Option, List, [], ◌∷◌, ◌++◌, length, get_or, take, drop, map, set, refl, ap, sym, ◌∙◌, subst, arith, inl, inr}
use Rattle.std.specs.List.{filter}
use Rattle.std.proofs.lemmas.Bool.{lt-leb, le-leb}
use Rattle.std.proofs.lemmas.List.{drop_more, drop_all, take_more, append_assoc, append-nil, length-append, length-map, length-take-le, take_at, map_push, set_at, take-map}
use Rattle.cy_timers.specs.declared.timers.Timer.{Timer}
use Rattle.cy_timers.specs.Due.{due, in_order, is_due, timers_from}
use Rattle.cy_timers.specs.Order.{AreInOrder, IsAhead}
use Rattle.cy_timers.proofs.Before.{Before, Before-from_test}
use Rattle.cy_timers.proofs.Sorted.{AreInOrder-drop}

-- the first i are due
pub record IsFront (now : ℕ) (queue : List Timer) (i : ℕ) : Type 0 where
  pub within : i ≤ length queue
  pub split : filter (is_due now) queue ≡ take i queue ++ filter (is_due now) (drop i queue)

pub front_none : (now : ℕ) (queue : List Timer) → IsFront now queue 0
front_none now queue = record { within = omega arith; split = refl }

filter_due : (now : ℕ) (t : Timer) (ts : List Timer) → is_due now t ≡ true → filter (is_due now) (t ∷ ts) ≡ t ∷ filter (is_due now) ts
filter_due now t ts h = ap (λ (b : Bool). cond b (t ∷ filter (is_due now) ts) (filter (is_due now) ts)) h

pub front_more : (now : ℕ) (queue : List Timer) (i : ℕ) (d : Timer) → i < length queue → (get_or queue i d).deadline ≤ now → IsFront now queue i → IsFront now queue (i + 1)
front_more now queue i d h passes front =
    let t : Timer = get_or queue i d in
    record {
      within = omega arith;
      split =
          front.split
          ∙ ap (λ (l : List Timer). take i queue ++ filter (is_due now) l) (drop_more queue i d h)
          ∙ ap (λ (l : List Timer). take i queue ++ l) (filter_due now t (drop (i + 1) queue) (le-leb t.deadline now passes))
          ∙ sym (append_assoc (take i queue) (t ∷ []) (filter (is_due now) (drop (i + 1) queue)))
          ∙ ap (λ (l : List Timer). l ++ filter (is_due now) (drop (i + 1) queue)) (sym (take_more queue i d h));
    }

-- ---- where it stops

none_behind : (now : ℕ) (t : Timer) (ts : List Timer) → now < t.deadline → IsAhead t ts → filter (is_due now) ts ≡ []
none_behind now t [] late ahead = refl
none_behind now t (u ∷ us) late ahead =
    let later : now < u.deadline = no_less (Before-from_test t u ahead.0) in
    ap (λ (b : Bool). cond b (u ∷ filter (is_due now) us) (filter (is_due now) us)) (lt-leb u.deadline now later) ∙ none_behind now t us late ahead.1
  where
    no_less : Before t u → now < u.deadline
    no_less (inl x) = omega arith
    no_less (inr x) = omega (arith, x.0)

none_from : (now : ℕ) (t : Timer) (ts : List Timer) → now < t.deadline → AreInOrder (t ∷ ts) → filter (is_due now) (t ∷ ts) ≡ []
none_from now t ts late ordered =
    ap (λ (b : Bool). cond b (t ∷ filter (is_due now) ts) (filter (is_due now) ts)) (lt-leb t.deadline now late) ∙ none_behind now t ts late ordered.0

-- all that is due is the front
abbrev pub IsWhole : ℕ → List Timer → ℕ → Type 0
IsWhole now queue i = filter (is_due now) queue ≡ take i queue

pub whole_at_end : (now : ℕ) (queue : List Timer) (i : ℕ) → length queue ≤ i → IsFront now queue i → IsWhole now queue i
whole_at_end now queue i h front =
    front.split ∙ ap (λ (l : List Timer). take i queue ++ filter (is_due now) l) (drop_all i queue h) ∙ append-nil (take i queue)

pub whole_at_late : (now : ℕ) (queue : List Timer) (i : ℕ) (d : Timer) → AreInOrder queue → i < length queue → now < (get_or queue i d).deadline → IsFront now queue i → IsWhole now queue i
whole_at_late now queue i d ordered h late front =
    let t : Timer = get_or queue i d in
    let more = drop_more queue i d h in
    front.split
    ∙ ap (λ (l : List Timer). take i queue ++ filter (is_due now) l) more
    ∙ ap (λ (l : List Timer). take i queue ++ l) (none_from now t (drop (i + 1) queue) late (subst AreInOrder more (AreInOrder-drop i queue ordered)))
    ∙ append-nil (take i queue)

-- ---- the places

abbrev pub places_of : List Timer → List ℕ
places_of ts = map (λ t. t.place) ts

-- the first i of what is due are the first i of the queue
pub front_places : (now : ℕ) (queue : List Timer) (i : ℕ) → IsFront now queue i → take i (places_of (filter (is_due now) queue)) ≡ places_of (take i queue)
front_places now queue i front =
    ap (λ (l : List Timer). take i (places_of l)) front.split
    ∙ take-map (λ (t : Timer). t.place) i (take i queue ++ filter (is_due now) (drop i queue))
    ∙ ap places_of (take_at (take i queue) (filter (is_due now) (drop i queue)) i (length-take-le i queue front.within))

pub front_fits : (now : ℕ) (queue : List Timer) (i : ℕ) → IsFront now queue i → i ≤ length (places_of (filter (is_due now) queue))
front_fits now queue i front =
    let e = length-map (filter (is_due now) queue) (λ (t : Timer). t.place) in
    let f = ap length front.split in
    let g = length-append (take i queue) (filter (is_due now) (drop i queue)) in
    let s = length-take-le i queue front.within in
    omega (arith, e, f, g, s)

pub whole_counts : (now : ℕ) (queue : List Timer) (i : ℕ) → IsFront now queue i → IsWhole now queue i → length (places_of (filter (is_due now) queue)) ≡ i
whole_counts now queue i front whole =
    let e = length-map (filter (is_due now) queue) (λ (t : Timer). t.place) in
    let f = ap length whole in
    let s = length-take-le i queue front.within in
    omega (arith, e, f, s)

-- ---- what is written

-- what is due, as the queue has it
pub due_is : (deadlines seen : List (Option ℕ)) (queue : List Timer) (now : ℕ) → queue ≡ in_order (timers_from 0 deadlines) → deadlines ≡ seen → due seen now ≡ places_of (filter (is_due now) queue)
due_is deadlines seen queue now ordered same =
    ap (λ (l : List (Option ℕ)). due l now) (sym same) ∙ ap (λ (l : List Timer). places_of (filter (is_due now) l)) (sym ordered)

-- one place more is written
pub written_more : (queue : List Timer) (into old : List ℕ) (i : ℕ) (t : Timer) → i < length queue → i < length old → t ≡ get_or queue i t → into ≡ places_of (take i queue) ++ drop i old → set into i t.place ≡ places_of (take (i + 1) queue) ++ drop (i + 1) old
written_more queue into old i t h room is written =
    let size : length (places_of (take i queue)) ≡ i =
    length-map (take i queue) (λ (u : Timer). u.place) ∙ length-take-le i queue (omega arith) in
    ap (λ (l : List ℕ). set l i t.place) (written ∙ ap (λ (l : List ℕ). places_of (take i queue) ++ l) (drop_more old i 0 room))
    ∙ set_at (places_of (take i queue)) (get_or old i 0) (drop (i + 1) old) t.place i size
    ∙ sym (append_assoc (places_of (take i queue)) (t.place ∷ []) (drop (i + 1) old))
    ∙ ap (λ (l : List ℕ). l ++ drop (i + 1) old)
    (ap (λ (u : Timer). places_of (take i queue) ++ u.place ∷ []) is
    ∙ sym (map_push (λ (u : Timer). u.place) (take i queue) (get_or queue i t))
    ∙ ap places_of (sym (take_more queue i t h)))
