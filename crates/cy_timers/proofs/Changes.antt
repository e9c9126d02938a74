-- What setting and taking away a deadline does to the queue.
use Rattle.std.proofs.Common.{◌≡◌, ℕ, zero, suc, ◌+◌, ◌-◌, ◌<◌, ◌≤◌, true, false, cond, ltb, Option, Some, None, List, [], ◌∷◌, length, get_or, set, insert, remove, replicate, ◌^◌, refl, ap, sym, ◌∙◌, subst, arith, inl, inr, ◌⊎◌}
use Rattle.std.proofs.lemmas.Bool.{cases_lt, le-ltb, lt-ltb}
use Rattle.std.proofs.lemmas.List.{length-set, length-replicate, set-set, set-get_or, get_or-set_same}
use Rattle.cy_timers.specs.declared.timers.Timer.{Timer}
use Rattle.cy_timers.specs.Due.{in_order, is_before, put_timer, timers_from}
use Rattle.cy_timers.specs.Order.{AreInOrder, IsRank, moved}
use Rattle.cy_timers.specs.Queues.{IsQueue}
use Rattle.cy_timers.proofs.Moves.{rank_less, rank_same}
use Rattle.cy_timers.proofs.Put.{put_comm, put_is_insert, taken_out}
use Rattle.cy_timers.proofs.Sorted.{in_order-sorted}

abbrev no_deadline : Option ℕ
no_deadline = None

-- a deadline set where there was none is a timer put
timers_from-set : (n q p d : ℕ) (deadlines : List (Option ℕ)) → q ≡ n + p → p < length deadlines → get_or deadlines p None ≡ None → in_order (timers_from n (set deadlines p (Some d))) ≡ put_timer (record { deadline = d; place = q }) (in_order (timers_from n deadlines))
timers_from-set n q p d [] at h none = absurd (omega arith)
timers_from-set n q zero d (None ∷ deadlines) at h none =
    let e : n ≡ q = omega arith in
    ap (λ (m : ℕ). put_timer (record { deadline = d; place = m }) (in_order (timers_from (n + 1) deadlines))) e
timers_from-set n q zero d (Some x ∷ deadlines) at h none = cc
timers_from-set n q (suc p) d (None ∷ deadlines) at h none = timers_from-set (n + 1) q p d deadlines (omega arith) (omega arith) none
timers_from-set n q (suc p) d (Some x ∷ deadlines) at h none =
    let t : Timer = record { deadline = x; place = n } in
    let u : Timer = record { deadline = d; place = q } in
    ap (λ (l : List Timer). put_timer t l) (timers_from-set (n + 1) q p d deadlines (omega arith) (omega arith) none)
    ∙ put_comm t u (in_order (timers_from (n + 1) deadlines)) (omega arith)

length-put : (t : Timer) (us : List Timer) → length (put_timer t us) ≡ length us + 1
length-put t [] = refl
length-put t (u ∷ us) =
    elim (is_before u t) as (λ b. length (cond b (u ∷ put_timer t us) (t ∷ u ∷ us)) ≡ length (u ∷ us) + 1) [
      | true ↦ (let e = length-put t us in omega (arith, e))
      | false ↦ omega arith
    ]

few_timers : (n : ℕ) (deadlines : List (Option ℕ)) → length (in_order (timers_from n deadlines)) ≤ length deadlines
few_timers n [] = omega arith
few_timers n (None ∷ deadlines) = let h = few_timers (n + 1) deadlines in omega (arith, h)
few_timers n (Some d ∷ deadlines) =
    let h = few_timers (n + 1) deadlines in
    let e = length-put (record { deadline = d; place = n }) (in_order (timers_from (n + 1) deadlines)) in
    omega (arith, h, e)

none_yet : (n places : ℕ) → in_order (timers_from n (replicate places None)) ≡ []
none_yet n zero = refl
none_yet n (suc places) = none_yet (n + 1) places

-- ---- the queue

pub queue_at_first : (places room : ℕ) → places < 2 ^ 32 → places ≤ room → IsQueue (replicate places None) [] room
queue_at_first places room few fits = record {
  ordered = sym (none_yet 0 places);
  fits = (let e = length-replicate places no_deadline in omega (arith, e));
  few = (let e = length-replicate places no_deadline in omega (arith, e));
}

pub queue_in_order : (deadlines : List (Option ℕ)) (queue : List Timer) (room : ℕ) → IsQueue deadlines queue room → AreInOrder queue
queue_in_order deadlines queue room q = subst AreInOrder (sym q.ordered) (in_order-sorted 0 deadlines).ordered

-- a timer set where there was none
pub queue_set : (deadlines : List (Option ℕ)) (queue : List Timer) (room p d i : ℕ) → IsQueue deadlines queue room → p < length deadlines → get_or deadlines p None ≡ None → IsRank (record { deadline = d; place = p }) queue i → IsQueue (set deadlines p (Some d)) (insert queue i (record { deadline = d; place = p })) room
queue_set deadlines queue room p d i q below none rank =
    let t : Timer = record { deadline = d; place = p } in
    let size = length-set deadlines p (Some d) in
    record {
      ordered =
          sym (put_is_insert t queue i rank)
          ∙ ap (λ (l : List Timer). put_timer t l) q.ordered
          ∙ sym (timers_from-set 0 p p d deadlines (omega arith) below none);
      fits = (let h = q.fits in omega (arith, size));
      few = (let h = q.few in omega (arith, size));
    }

-- there is room for it
pub room_to_set : (deadlines : List (Option ℕ)) (queue : List Timer) (room p : ℕ) → IsQueue deadlines queue room → p < length deadlines → get_or deadlines p None ≡ None → length queue < room
room_to_set deadlines queue room p q below none =
    let t : Timer = record { deadline = 0; place = p } in
    let size = length-set deadlines p (Some 0) in
    let few = few_timers 0 (set deadlines p (Some 0)) in
    let is = ap length (timers_from-set 0 p p 0 deadlines (omega arith) below none) in
    let more = length-put t (in_order (timers_from 0 deadlines)) in
    let here = ap length q.ordered in
    let fits = q.fits in
    omega (arith, size, few, is, more, here, fits)

-- the queue is that without the timer of a place, and the timer put
held : (deadlines : List (Option ℕ)) (queue : List Timer) (room p d : ℕ) → IsQueue deadlines queue room → p < length deadlines → get_or deadlines p None ≡ Some d → queue ≡ put_timer (record { deadline = d; place = p }) (in_order (timers_from 0 (set deadlines p None)))
held deadlines queue room p d q below some =
    let size = length-set deadlines p no_deadline in
    let again : set (set deadlines p None) p (Some d) ≡ deadlines =
    set-set deadlines p None (Some d) ∙ ap (λ (o : Option ℕ). set deadlines p o) (sym some) ∙ set-get_or deadlines p None in
    q.ordered
    ∙ ap (λ (l : List (Option ℕ)). in_order (timers_from 0 l)) (sym again)
    ∙ timers_from-set 0 p p d (set deadlines p None) (omega arith) (omega (arith, size)) (get_or-set_same deadlines p None None below)

pub record Cancels (deadlines : List (Option ℕ)) (queue : List Timer) (room p i : ℕ) : Type 0 where
  pub within : i < length queue
  pub left : IsQueue (set deadlines p None) (remove queue i) room

pub queue_cancel : (deadlines : List (Option ℕ)) (queue : List Timer) (room p d i : ℕ) → IsQueue deadlines queue room → p < length deadlines → get_or deadlines p None ≡ Some d → IsRank (record { deadline = d; place = p }) queue i → Cancels deadlines queue room p i
queue_cancel deadlines queue room p d i q below some rank =
    let t : Timer = record { deadline = d; place = p } in
    let us : List Timer = in_order (timers_from 0 (set deadlines p None)) in
    let is = held deadlines queue room p d q below some in
    let out = taken_out t us i (subst (λ (l : List Timer). IsRank t l i) is rank) in
    let size = length-set deadlines p no_deadline in
    record {
      within = subst (λ (l : List Timer). i < length l) (sym is) out.within;
      left = record {
        ordered = ap (λ (l : List Timer). remove l i) is ∙ out.left;
        fits = (let h = q.fits in omega (arith, size));
        few = (let h = q.few in omega (arith, size));
      };
    }

-- the timer's rank once the other is out
rank_moved : (queue : List Timer) (from to : ℕ) (t : Timer) → from < length queue → IsRank t queue to → IsRank t (remove queue from) (cond (ltb from to) (to - 1) to)
rank_moved queue from to t h rank = by_order (cases_lt from to)
  where
    by_order : (from < to) ⊎ (to ≤ from) → IsRank t (remove queue from) (cond (ltb from to) (to - 1) to)
    by_order (inl less) =
        let e : to ≡ suc (to - 1) = omega arith in
        rw (lt-ltb from to less) (rank_less from (to - 1) queue t (omega arith) h (subst (λ (n : ℕ). IsRank t queue n) e rank))
    by_order (inr more) = rw (le-ltb from to more) (rank_same from to queue t more h rank)

-- a timer set in place of another
pub queue_changed : (deadlines : List (Option ℕ)) (queue : List Timer) (room p b d from to : ℕ) → IsQueue deadlines queue room → p < length deadlines → get_or deadlines p None ≡ Some b → IsRank (record { deadline = b; place = p }) queue from → IsRank (record { deadline = d; place = p }) queue to → IsQueue (set deadlines p (Some d)) (moved queue from to (record { deadline = d; place = p })) room
queue_changed deadlines queue room p b d from to q below some rank_b rank_d =
    let t : Timer = record { deadline = d; place = p } in
    let out = queue_cancel deadlines queue room p b from q below some rank_b in
    let size = length-set deadlines p no_deadline in
    let less : p < length (set deadlines p None) = omega (arith, size) in
    subst (λ (l : List (Option ℕ)). IsQueue l (moved queue from to t) room) (set-set deadlines p None (Some d))
    (queue_set (set deadlines p None) (remove queue from) room p d (cond (ltb from to) (to - 1) to) out.left less
    (get_or-set_same deadlines p None None below)
    (rank_moved queue from to t out.within rank_d))
