-- Timers put into an ordered list: two in either order, one by its rank, and one taken out again.
use Rattle.std.proofs.Common.{◌≡◌, ℕ, zero, suc, ◌<◌, Bool, true, false, cond, List, [], ◌∷◌, length, insert, remove, refl, ap, sym, ◌∙◌, subst, arith}
use Rattle.std.proofs.lemmas.Bool.{false≢true}
use Rattle.cy_timers.specs.declared.timers.Timer.{Timer}
use Rattle.cy_timers.specs.Due.{is_before, put_timer}
use Rattle.cy_timers.specs.Order.{IsRank}
use Rattle.cy_timers.proofs.Before.{before_asym, before_itself, before_other, before_through}

put_front : (t u : Timer) (us : List Timer) → is_before u t ≡ true → put_timer t (u ∷ us) ≡ u ∷ put_timer t us
put_front t u us h = ap (λ (b : Bool). cond b (u ∷ put_timer t us) (t ∷ u ∷ us)) h

put_here : (t u : Timer) (us : List Timer) → is_before u t ≡ false → put_timer t (u ∷ us) ≡ t ∷ u ∷ us
put_here t u us h = ap (λ (b : Bool). cond b (u ∷ put_timer t us) (t ∷ u ∷ us)) h

-- ---- two timers, in either order

-- in front of what neither comes after
both_here : (a b : Timer) (us : List Timer) → a.place < b.place → put_timer a us ≡ a ∷ us → put_timer b us ≡ b ∷ us → put_timer a (b ∷ us) ≡ put_timer b (a ∷ us)
both_here a b us places here_a here_b = by_case (is_before b a) refl
  where
    by_case : (v : Bool) → is_before b a ≡ v → put_timer a (b ∷ us) ≡ put_timer b (a ∷ us)
    by_case true e = put_front a b us e ∙ ap (λ (l : List Timer). b ∷ l) here_a ∙ sym (put_here b a us (before_asym b a e))
    by_case false e = put_here a b us e ∙ ap (λ (l : List Timer). a ∷ l) (sym here_b) ∙ sym (put_front b a us (before_other a b places e))

pub put_comm : (a b : Timer) (us : List Timer) → a.place < b.place → put_timer a (put_timer b us) ≡ put_timer b (put_timer a us)
put_comm a b [] places = both_here a b [] places refl refl
put_comm a b (u ∷ us) places = by_case (is_before u a) (is_before u b) refl refl (put_comm a b us places)
  where
    by_case : (v w : Bool) → is_before u a ≡ v → is_before u b ≡ w → put_timer a (put_timer b us) ≡ put_timer b (put_timer a us) → put_timer a (put_timer b (u ∷ us)) ≡ put_timer b (put_timer a (u ∷ us))
    by_case true true e f rest =
        ap (λ (l : List Timer). put_timer a l) (put_front b u us f)
        ∙ put_front a u (put_timer b us) e
        ∙ ap (λ (l : List Timer). u ∷ l) rest
        ∙ sym (put_front b u (put_timer a us) f)
        ∙ ap (λ (l : List Timer). put_timer b l) (sym (put_front a u us e))
    by_case true false e f rest =
        ap (λ (l : List Timer). put_timer a l) (put_here b u us f)
        ∙ put_front a b (u ∷ us) (before_through a b u e f)
        ∙ ap (λ (l : List Timer). b ∷ l) (put_front a u us e)
        ∙ sym (put_here b u (put_timer a us) f)
        ∙ ap (λ (l : List Timer). put_timer b l) (sym (put_front a u us e))
    by_case false true e f rest =
        ap (λ (l : List Timer). put_timer a l) (put_front b u us f)
        ∙ put_here a u (put_timer b us) e
        ∙ ap (λ (l : List Timer). a ∷ l) (sym (put_front b u us f))
        ∙ sym (put_front b a (u ∷ us) (before_through b a u f e))
        ∙ ap (λ (l : List Timer). put_timer b l) (sym (put_here a u us e))
    by_case false false e f rest =
        ap (λ (l : List Timer). put_timer a l) (put_here b u us f)
        ∙ both_here a b (u ∷ us) places (put_here a u us e) (put_here b u us f)
        ∙ ap (λ (l : List Timer). put_timer b l) (sym (put_here a u us e))

-- ---- by rank

-- the rank behind a timer that comes before
pub rank_behind : (t u : Timer) (us : List Timer) (i : ℕ) → IsRank t (u ∷ us) (suc i) → IsRank t us i
rank_behind t u us i rank = record {
  within = (let h = rank.within in omega arith);
  front = λ k d low high. rank.front (suc k) d (omega arith) (omega arith);
  back = λ k d low high. rank.back (suc k) d (omega arith) (omega arith);
}

pub comes_before : (t u : Timer) (us : List Timer) (i : ℕ) → IsRank t (u ∷ us) (suc i) → is_before u t ≡ true
comes_before t u us i rank = rank.front 0 u (omega arith) (omega arith)

pub comes_not_before : (t u : Timer) (us : List Timer) → IsRank t (u ∷ us) 0 → is_before u t ≡ false
comes_not_before t u us rank = rank.back 0 u (omega arith) (omega arith)

pub put_is_insert : (t : Timer) (us : List Timer) (i : ℕ) → IsRank t us i → put_timer t us ≡ insert us i t
put_is_insert t [] zero rank = refl
put_is_insert t [] (suc i) rank = let h = rank.within in absurd (omega arith)
put_is_insert t (u ∷ us) zero rank = put_here t u us (comes_not_before t u us rank)
put_is_insert t (u ∷ us) (suc i) rank =
    put_front t u us (comes_before t u us i rank)
    ∙ ap (λ (l : List Timer). u ∷ l) (put_is_insert t us i (rank_behind t u us i rank))

-- the list without the timer that was put, and where that stands
pub record TakesOut (t : Timer) (us : List Timer) (i : ℕ) : Type 0 where
  pub within : i < length (put_timer t us)
  pub left : remove (put_timer t us) i ≡ us

-- where the timer stands first
first_out : (t : Timer) (us : List Timer) (i : ℕ) → IsRank t (t ∷ us) i → (i < length (t ∷ us)) × (remove (t ∷ us) i ≡ us)
first_out t us zero rank = (omega arith, refl)
first_out t us (suc i) rank = absurd (false≢true (sym (before_itself t) ∙ comes_before t t us i rank))

pub taken_out : (t : Timer) (us : List Timer) (i : ℕ) → IsRank t (put_timer t us) i → TakesOut t us i
taken_out t [] i rank = let out = first_out t [] i rank in record { within = out.0; left = out.1 }
taken_out t (u ∷ us) i rank = by_case (is_before u t) refl i rank (taken_out t us)
  where
    behind : is_before u t ≡ true → (i : ℕ) → IsRank t (u ∷ put_timer t us) i → ((j : ℕ) → IsRank t (put_timer t us) j → TakesOut t us j) → (i < length (u ∷ put_timer t us)) × (remove (u ∷ put_timer t us) i ≡ u ∷ us)
    behind e zero rank more = absurd (false≢true (sym (comes_not_before t u (put_timer t us) rank) ∙ e))
    behind e (suc i) rank more =
        let out = more i (rank_behind t u (put_timer t us) i rank) in
        ((let h = out.within in omega arith), ap (λ (l : List Timer). u ∷ l) out.left)

    by_case : (v : Bool) → is_before u t ≡ v → (i : ℕ) → IsRank t (put_timer t (u ∷ us)) i → ((j : ℕ) → IsRank t (put_timer t us) j → TakesOut t us j) → TakesOut t (u ∷ us) i
    by_case true e i rank more =
        let is = put_front t u us e in
        let out = behind e i (subst (λ (l : List Timer). IsRank t l i) is rank) more in
        record {
          within = subst (λ (l : List Timer). i < length l) (sym is) out.0;
          left = ap (λ (l : List Timer). remove l i) is ∙ out.1;
        }
    by_case false e i rank more =
        let is = put_here t u us e in
        let out = first_out t (u ∷ us) i (subst (λ (l : List Timer). IsRank t l i) is rank) in
        record {
          within = subst (λ (l : List Timer). i < length l) (sym is) out.0;
          left = ap (λ (l : List Timer). remove l i) is ∙ out.1;
        }
