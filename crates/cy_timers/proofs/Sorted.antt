-- The timers of places, in their order.
use Rattle.std.proofs.Common.{◌≡◌, ℕ, zero, suc, ◌+◌, ◌<◌, ◌≤◌, Bool, true, false, cond, Option, Some, None, List, [], ◌∷◌, length, get_or, drop, refl, arith}
use Rattle.std.specs.List.Sorted.{IsPartitionedBy}
use Rattle.cy_timers.specs.declared.timers.Timer.{Timer}
use Rattle.cy_timers.specs.Due.{in_order, is_before, put_timer, timers_from}
use Rattle.cy_timers.specs.Order.{AreInOrder, IsAhead}
use Rattle.cy_timers.proofs.Before.{before_other, before_trans}

-- places from this number on
abbrev pub AreFrom : ℕ → List Timer → Type 0
AreFrom n [] = Unit {0}
AreFrom n (t ∷ ts) = (n ≤ t.place) × AreFrom n ts

from_less : (m n : ℕ) (ts : List Timer) → m ≤ n → AreFrom n ts → AreFrom m ts
from_less m n [] h from = tt
from_less m n (t ∷ ts) h from = (omega (arith, from.0), from_less m n ts h from.1)

put_from : (n : ℕ) (t : Timer) (us : List Timer) → n ≤ t.place → AreFrom n us → AreFrom n (put_timer t us)
put_from n t [] h from = (h, tt)
put_from n t (u ∷ us) h from =
    elim (is_before u t) as (λ b. AreFrom n (cond b (u ∷ put_timer t us) (t ∷ u ∷ us))) [
      | true ↦ (from.0, put_from n t us h from.1)
      | false ↦ (h, from)
    ]

ahead_of_more : (t u : Timer) (us : List Timer) → is_before t u ≡ true → IsAhead u us → IsAhead t us
ahead_of_more t u [] h ahead = tt
ahead_of_more t u (v ∷ us) h ahead = (before_trans t u v h ahead.0, ahead_of_more t u us h ahead.1)

ahead_of_put : (u t : Timer) (us : List Timer) → is_before u t ≡ true → IsAhead u us → IsAhead u (put_timer t us)
ahead_of_put u t [] h ahead = (h, tt)
ahead_of_put u t (v ∷ us) h ahead =
    elim (is_before v t) as (λ b. IsAhead u (cond b (v ∷ put_timer t us) (t ∷ v ∷ us))) [
      | true ↦ (ahead.0, ahead_of_put u t us h ahead.1)
      | false ↦ (h, ahead)
    ]

put_in_order : (t : Timer) (us : List Timer) → AreFrom (t.place + 1) us → AreInOrder us → AreInOrder (put_timer t us)
put_in_order t [] from ordered = (tt, tt)
put_in_order t (u ∷ us) from ordered = by_case (is_before u t) refl (put_in_order t us from.1 ordered.1)
  where
    by_case : (b : Bool) → is_before u t ≡ b → AreInOrder (put_timer t us) → AreInOrder (cond b (u ∷ put_timer t us) (t ∷ u ∷ us))
    by_case true e rest = (ahead_of_put u t us e ordered.0, rest)
    by_case false e rest =
        let first = before_other t u (let h = from.0 in omega arith) e in
        ((first, ahead_of_more t u us first ordered.0), ordered)

pub record IsSortedFrom (n : ℕ) (ts : List Timer) : Type 0 where
  pub ordered : AreInOrder ts
  pub from : AreFrom n ts

pub in_order-sorted : (n : ℕ) (deadlines : List (Option ℕ)) → IsSortedFrom n (in_order (timers_from n deadlines))
in_order-sorted n [] = record { ordered = tt; from = tt }
in_order-sorted n (None ∷ deadlines) =
    let rest = in_order-sorted (n + 1) deadlines in
    record { ordered = rest.ordered; from = from_less n (n + 1) (in_order (timers_from (n + 1) deadlines)) (omega arith) rest.from }
in_order-sorted n (Some d ∷ deadlines) =
    let rest = in_order-sorted (n + 1) deadlines in
    let t : Timer = record { deadline = d; place = n } in
    let us : List Timer = in_order (timers_from (n + 1) deadlines) in
    record {
      ordered = put_in_order t us rest.from rest.ordered;
      from = put_from n t us (omega arith) (from_less n (n + 1) us (omega arith) rest.from);
    }

-- ---- a search by a timer finds its rank

ahead_at : (t : Timer) (us : List Timer) (j : ℕ) (d : Timer) → IsAhead t us → j < length us → is_before t (get_or us j d) ≡ true
ahead_at t [] j d ahead h = absurd (omega arith)
ahead_at t (u ∷ us) zero d ahead h = ahead.0
ahead_at t (u ∷ us) (suc j) d ahead h = ahead_at t us j d ahead.1 (omega arith)

pub partitioned : (x : Timer) (ts : List Timer) → AreInOrder ts → IsPartitionedBy (λ t. is_before t x) ts
partitioned x [] ordered i j d le h passes = absurd (omega arith)
partitioned x (t ∷ ts) ordered zero zero d le h passes = passes
partitioned x (t ∷ ts) ordered zero (suc j) d le h passes = before_trans t (get_or ts j d) x (ahead_at t ts j d ordered.0 (omega arith)) passes
partitioned x (t ∷ ts) ordered (suc i) zero d le h passes = absurd (omega arith)
partitioned x (t ∷ ts) ordered (suc i) (suc j) d le h passes = partitioned x ts ordered.1 i j d (omega arith) (omega arith) passes

pub AreInOrder-drop : (i : ℕ) (ts : List Timer) → AreInOrder ts → AreInOrder (drop i ts)
AreInOrder-drop zero ts ordered = ordered
AreInOrder-drop (suc i) [] ordered = tt
AreInOrder-drop (suc i) (t ∷ ts) ordered = AreInOrder-drop i ts ordered.1
