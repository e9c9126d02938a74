-- The due places are those whose deadline is at most now, each before those behind it.
use Rattle.std.proofs.Common.{◌≡◌, ℕ, zero, suc, ◌+◌, ◌<◌, Bool, true, false, cond, Option, Some, None, List, [], ◌∷◌, length, get_or, All, Contains, refl, ap, sym, ◌∙◌, subst, arith, inl, inr, ◌⊎◌}
use Rattle.std.specs.List.{filter}
use Rattle.std.proofs.lemmas.Bool.{false≢true, le-leb, leb-true}
use Rattle.std.proofs.lemmas.List.Elements.{All-nil, All-cons}
use Rattle.cy_timers.specs.declared.timers.Timer.{Timer}
use Rattle.cy_timers.specs.Due.{due, in_order, is_before, is_due, put_timer, timers_from}
use Rattle.cy_timers.specs.Order.{AreInOrder, IsAhead}
use Rattle.cy_timers.specs.Laws.{ComesBefore, DueIsDue, EachComesBefore, IsDue, deadline_of}
use Rattle.cy_timers.proofs.Before.{before_itself}
use Rattle.cy_timers.proofs.Fronts.{places_of}
use Rattle.cy_timers.proofs.Sorted.{in_order-sorted}

-- ---- a member of a list, by its recursion

abbrev Among : {X : Type 0} → List X → X → Type 0
Among [] x = ⊥
Among (y ∷ ys) x = (y ≡ x) ⊎ Among ys x

Among-from_Contains : {X : Type 0} (xs : List X) (x : X) (k : ℕ) → k < length xs → get_or xs k x ≡ x → Among xs x
Among-from_Contains [] x k h e = absurd (omega arith)
Among-from_Contains (y ∷ ys) x zero h e = inl e
Among-from_Contains (y ∷ ys) x (suc k) h e = inr (Among-from_Contains ys x k (omega arith) e)

Contains-from_Among : {X : Type 0} (xs : List X) (x : X) → Among xs x → Contains xs x
Contains-from_Among [] x a = absurd a
Contains-from_Among (y ∷ ys) x (inl e) = (0, omega arith, e)
Contains-from_Among (y ∷ ys) x (inr a) = let c = Contains-from_Among ys x a in (suc c.0, (let h = c.1 in omega arith), c.2)

-- ---- through the words of the definition

among_put : (t u : Timer) (us : List Timer) → Among (put_timer t us) u → (t ≡ u) ⊎ Among us u
among_put t u [] a = a
among_put t u (v ∷ us) a = by_case (is_before v t) a (among_put t u us)
  where
    by_case : (b : Bool) → Among (cond b (v ∷ put_timer t us) (t ∷ v ∷ us)) u → (Among (put_timer t us) u → (t ≡ u) ⊎ Among us u) → (t ≡ u) ⊎ Among (v ∷ us) u
    by_case true (inl e) rest = inr (inl e)
    by_case true (inr b) rest = later (rest b)
      where
        later : (t ≡ u) ⊎ Among us u → (t ≡ u) ⊎ Among (v ∷ us) u
        later (inl e) = inl e
        later (inr c) = inr (inr c)
    by_case false b rest = b

put_among : (t u : Timer) (us : List Timer) → (t ≡ u) ⊎ Among us u → Among (put_timer t us) u
put_among t u [] a = a
put_among t u (v ∷ us) a = by_case (is_before v t) a (put_among t u us)
  where
    by_case : (b : Bool) → (t ≡ u) ⊎ Among (v ∷ us) u → ((t ≡ u) ⊎ Among us u → Among (put_timer t us) u) → Among (cond b (v ∷ put_timer t us) (t ∷ v ∷ us)) u
    by_case true (inl e) rest = inr (rest (inl e))
    by_case true (inr (inl e)) rest = inl e
    by_case true (inr (inr b)) rest = inr (rest (inr b))
    by_case false b rest = b

among_in_order : (u : Timer) (ts : List Timer) → Among (in_order ts) u → Among ts u
among_in_order u [] a = a
among_in_order u (t ∷ ts) a = rest (among_put t u (in_order ts) a) (among_in_order u ts)
  where
    rest : (t ≡ u) ⊎ Among (in_order ts) u → (Among (in_order ts) u → Among ts u) → Among (t ∷ ts) u
    rest (inl e) more = inl e
    rest (inr a) more = inr (more a)

in_order_among : (u : Timer) (ts : List Timer) → Among ts u → Among (in_order ts) u
in_order_among u [] a = a
in_order_among u (t ∷ ts) (inl e) = put_among t u (in_order ts) (inl e)
in_order_among u (t ∷ ts) (inr a) = put_among t u (in_order ts) (inr (in_order_among u ts a))

among_filter : (now : ℕ) (u : Timer) (ts : List Timer) → Among (filter (is_due now) ts) u → Among ts u × (is_due now u ≡ true)
among_filter now u [] a = absurd a
among_filter now u (t ∷ ts) a = by_case (is_due now t) refl a (among_filter now u ts)
  where
    by_case : (b : Bool) → is_due now t ≡ b → Among (cond b (t ∷ filter (is_due now) ts) (filter (is_due now) ts)) u → (Among (filter (is_due now) ts) u → Among ts u × (is_due now u ≡ true)) → Among (t ∷ ts) u × (is_due now u ≡ true)
    by_case true e (inl f) rest = (inl f, sym (ap (is_due now) f) ∙ e)
    by_case true e (inr b) rest = let both = rest b in (inr both.0, both.1)
    by_case false e b rest = let both = rest b in (inr both.0, both.1)

filter_among : (now : ℕ) (u : Timer) (ts : List Timer) → Among ts u → is_due now u ≡ true → Among (filter (is_due now) ts) u
filter_among now u [] a due_now = a
filter_among now u (t ∷ ts) a due_now = by_case (is_due now t) refl a (λ b. filter_among now u ts b due_now)
  where
    by_case : (b : Bool) → is_due now t ≡ b → Among (t ∷ ts) u → (Among ts u → Among (filter (is_due now) ts) u) → Among (cond b (t ∷ filter (is_due now) ts) (filter (is_due now) ts)) u
    by_case true e (inl f) rest = inl f
    by_case true e (inr c) rest = inr (rest c)
    by_case false e (inl f) rest = let no_due : false ≡ true = sym e ∙ ap (is_due now) f ∙ due_now in cc
    by_case false e (inr c) rest = rest c

among_places : (p : ℕ) (ts : List Timer) → Among (places_of ts) p → (u : Timer) × Among ts u × (u.place ≡ p)
among_places p [] a = absurd a
among_places p (t ∷ ts) (inl e) = (t, inl refl, e)
among_places p (t ∷ ts) (inr a) = let w = among_places p ts a in (w.0, inr w.1, w.2)

places_among : (p : ℕ) (u : Timer) (ts : List Timer) → Among ts u → u.place ≡ p → Among (places_of ts) p
places_among p u [] a e = a
places_among p u (t ∷ ts) (inl f) e = inl (ap (λ (v : Timer). v.place) f ∙ e)
places_among p u (t ∷ ts) (inr a) e = inr (places_among p u ts a e)

-- the timers are those of the places that have a deadline
among_timers : (n : ℕ) (u : Timer) (deadlines : List (Option ℕ)) → Among (timers_from n deadlines) u → (q : ℕ) × (u.place ≡ n + q) × (get_or deadlines q None ≡ Some u.deadline)
among_timers n u [] a = absurd a
among_timers n u (None ∷ deadlines) a =
    let w = among_timers (n + 1) u deadlines a in
    (suc w.0, (let e = w.1 in omega arith), w.2)
among_timers n u (Some d ∷ deadlines) (inl e) =
    (0, (let f : n ≡ u.place = ap (λ (t : Timer). t.place) e in omega arith), ap (λ (t : Timer). Some t.deadline) e)
among_timers n u (Some d ∷ deadlines) (inr a) =
    let w = among_timers (n + 1) u deadlines a in
    (suc w.0, (let e = w.1 in omega arith), w.2)

timers_among : (n q d p : ℕ) (deadlines : List (Option ℕ)) → p ≡ n + q → get_or deadlines q None ≡ Some d → Among (timers_from n deadlines) (record { deadline = d; place = p })
timers_among n q d p [] at some = cc
timers_among n zero d p (None ∷ deadlines) at some = cc
timers_among n zero d p (Some x ∷ deadlines) at some = inl (same_timer x d n p (some_same x d some) (omega arith))
  where
    some_same : (x d : ℕ) → (let o : Option ℕ = Some x in o ≡ Some d) → x ≡ d
    some_same x d e = cc

    same_timer : (x d n p : ℕ) → x ≡ d → n ≡ p → (let t : Timer = record { deadline = x; place = n } in t ≡ record { deadline = d; place = p })
    same_timer x d n p e f = cc
timers_among n (suc q) d p (None ∷ deadlines) at some = timers_among (n + 1) q d p deadlines (omega arith) some
timers_among n (suc q) d p (Some x ∷ deadlines) at some = inr (timers_among (n + 1) q d p deadlines (omega arith) some)

-- ---- exactly those places

is_due_from : (deadlines : List (Option ℕ)) (now p : ℕ) → Contains (due deadlines now) p → IsDue deadlines now p
is_due_from deadlines now p c =
    let w = among_places p (filter (is_due now) (in_order (timers_from 0 deadlines))) (Among-from_Contains (due deadlines now) p c.0 c.1 c.2) in
    let passes = among_filter now w.0 (in_order (timers_from 0 deadlines)) w.1 in
    let stands = among_timers 0 w.0 deadlines (among_in_order w.0 (timers_from 0 deadlines) passes.0) in
    let same : stands.0 ≡ p = (let e = stands.1 in let f = w.2 in omega arith) in
    ((w.0).deadline, subst (λ (q : ℕ). get_or deadlines q None ≡ Some (w.0).deadline) same stands.2, leb-true (w.0).deadline now passes.1)

due_from_is : (deadlines : List (Option ℕ)) (now p : ℕ) → IsDue deadlines now p → Contains (due deadlines now) p
due_from_is deadlines now p d =
    let u : Timer = record { deadline = d.0; place = p } in
    let a = in_order_among u (timers_from 0 deadlines) (timers_among 0 p d.0 p deadlines (omega arith) d.1) in
    Contains-from_Among (due deadlines now) p
    (places_among p u (filter (is_due now) (in_order (timers_from 0 deadlines))) (filter_among now u (in_order (timers_from 0 deadlines)) a (le-leb d.0 now d.2)) refl)

-- ---- in their order

-- each of these is the timer of its place
abbrev AreTimers : List (Option ℕ) → List Timer → Type 0
AreTimers deadlines [] = Unit {0}
AreTimers deadlines (t ∷ ts) = (deadline_of deadlines t.place ≡ Some t.deadline) × AreTimers deadlines ts

are_timers : (deadlines : List (Option ℕ)) (ts : List Timer) → ((u : Timer) → Among ts u → deadline_of deadlines u.place ≡ Some u.deadline) → AreTimers deadlines ts
are_timers deadlines [] each = tt
are_timers deadlines (t ∷ ts) each = (each t (inl refl), are_timers deadlines ts (λ u a. each u (inr a)))

ahead-filter : (now : ℕ) (t : Timer) (ts : List Timer) → IsAhead t ts → IsAhead t (filter (is_due now) ts)
ahead-filter now t [] ahead = tt
ahead-filter now t (u ∷ us) ahead =
    elim (is_due now u) as (λ b. IsAhead t (cond b (u ∷ filter (is_due now) us) (filter (is_due now) us))) [
      | true ↦ (ahead.0, ahead-filter now t us ahead.1)
      | false ↦ ahead-filter now t us ahead.1
    ]

in_order-filter : (now : ℕ) (ts : List Timer) → AreInOrder ts → AreInOrder (filter (is_due now) ts)
in_order-filter now [] ordered = tt
in_order-filter now (t ∷ ts) ordered =
    elim (is_due now t) as (λ b. AreInOrder (cond b (t ∷ filter (is_due now) ts) (filter (is_due now) ts))) [
      | true ↦ (ahead-filter now t ts ordered.0, in_order-filter now ts ordered.1)
      | false ↦ in_order-filter now ts ordered.1
    ]

all_behind : (deadlines : List (Option ℕ)) (t : Timer) (us : List Timer) → deadline_of deadlines t.place ≡ Some t.deadline → AreTimers deadlines us → IsAhead t us → All (ComesBefore deadlines t.place) (places_of us)
all_behind deadlines t [] here timers ahead = All-nil (ComesBefore deadlines t.place)
all_behind deadlines t (u ∷ us) here timers ahead =
    All-cons (ComesBefore deadlines t.place) u.place (places_of us)
    (record { first = t.deadline; second = u.deadline; of_p = here; of_q = timers.0; order = ahead.0 })
    (all_behind deadlines t us here timers.1 ahead.1)

each_before : (deadlines : List (Option ℕ)) (ts : List Timer) → AreTimers deadlines ts → AreInOrder ts → EachComesBefore deadlines (places_of ts)
each_before deadlines [] timers ordered = tt
each_before deadlines (t ∷ ts) timers ordered = (all_behind deadlines t ts timers.0 timers.1 ordered.0, each_before deadlines ts timers.1 ordered.1)

-- no place comes before itself
not_itself : (deadlines : List (Option ℕ)) (p : ℕ) → ComesBefore deadlines p p → ⊥
not_itself deadlines p b =
    let same : b.second ≡ b.first = some_same b.second b.first (sym b.of_q ∙ b.of_p) in
    let t : Timer = record { deadline = b.first; place = p } in
    false≢true (sym (before_itself t) ∙ subst (λ (d : ℕ). is_before t (record { deadline = d; place = p }) ≡ true) same b.order)
  where
    some_same : (x y : ℕ) → (let o : Option ℕ = Some x in o ≡ Some y) → x ≡ y
    some_same x y e = cc

pub due_is_due : DueIsDue
due_is_due deadlines now =
    let ts : List Timer = filter (is_due now) (in_order (timers_from 0 deadlines)) in
    record {
      exact = λ p. (is_due_from deadlines now p, due_from_is deadlines now p);
      ordered = each_before deadlines ts
          (are_timers deadlines ts (λ u a. timer_of u (among_timers 0 u deadlines (among_in_order u (timers_from 0 deadlines) (among_filter now u (in_order (timers_from 0 deadlines)) a).0))))
          (in_order-filter now (in_order (timers_from 0 deadlines)) (in_order-sorted 0 deadlines).ordered);
      once = not_itself deadlines;
    }
  where
    timer_of : (u : Timer) → ((q : ℕ) × (u.place ≡ 0 + q) × (get_or deadlines q None ≡ Some u.deadline)) → deadline_of deadlines u.place ≡ Some u.deadline
    timer_of u w = subst (λ (q : ℕ). get_or deadlines q None ≡ Some u.deadline) (let e = w.1 in let f : w.0 ≡ u.place = omega arith in f) w.2
