-- A timer of the queue moved to another rank: it is as if it were taken out and put in again.
use Rattle.std.proofs.Common.{◌≡◌, ℕ, zero, suc, ◌+◌, ◌<◌, ◌≤◌, true, false, List, [], ◌∷◌, ◌++◌, length, get_or, set, take, drop, insert, remove, refl, ap, sym, ◌∙◌, arith}
use Rattle.std.proofs.lemmas.List.{append_assoc, length-take-le, set_at, take-take}
use Rattle.cy_timers.specs.declared.timers.Timer.{Timer}
use Rattle.cy_timers.specs.Due.{is_before}
use Rattle.cy_timers.specs.Order.{IsRank}
use Rattle.cy_timers.proofs.Put.{comes_before, comes_not_before, rank_behind}

-- ---- lists: the elements between are moved by one

-- to the back: k elements follow the one at f
pub moved_back : (f k p : ℕ) (q : List Timer) (t : Timer) → p ≡ f + k → f + suc k ≤ length q → set (take f q ++ ((drop 1 (take (suc k) (drop f q)) ++ take 1 (take (suc k) (drop f q))) ++ drop (suc k) (drop f q))) p t ≡ insert (remove q f) p t
moved_back f k p [] t at h = absurd (omega arith)
moved_back zero k p (x ∷ q) t at h =
    let e : p ≡ k = omega arith in
    ap (λ (l : List Timer). set l p t) (append_assoc (take k q) (x ∷ []) (drop k q))
    ∙ set_at (take k q) x (drop k q) t p (length-take-le k q (omega arith) ∙ sym e)
    ∙ ap (λ (n : ℕ). take n q ++ t ∷ drop n q) (sym e)
moved_back (suc f) k zero (x ∷ q) t at h = absurd (omega arith)
moved_back (suc f) k (suc p) (x ∷ q) t at h = ap (λ (l : List Timer). x ∷ l) (moved_back f k p q t (omega arith) (omega arith))

-- the last of the first k + 1
one_left : (k : ℕ) (q : List Timer) (d : Timer) → k < length q → drop k (take (suc k) q) ≡ get_or q k d ∷ []
one_left k [] d h = absurd (omega arith)
one_left zero (x ∷ q) d h = refl
one_left (suc k) (x ∷ q) d h = one_left k q d (omega arith)

-- to the front: k elements stand before the one at n
pub moved_front : (g k n : ℕ) (q : List Timer) (t : Timer) → n ≡ g + k → n < length q → set (take g q ++ ((drop k (take (suc k) (drop g q)) ++ take k (take (suc k) (drop g q))) ++ drop (suc k) (drop g q))) g t ≡ insert (remove q n) g t
moved_front g k n [] t at h = absurd (omega arith)
moved_front zero k n (x ∷ q) t at h =
    let e : n ≡ k = omega arith in
    ap (λ (l : List Timer). set ((l ++ take k (take (suc k) (x ∷ q))) ++ drop (suc k) (x ∷ q)) 0 t) (one_left k (x ∷ q) x (omega arith))
    ∙ ap (λ (l : List Timer). t ∷ (l ++ drop (suc k) (x ∷ q))) (take-take k (suc k) (x ∷ q) (omega arith))
    ∙ ap (λ (m : ℕ). t ∷ remove (x ∷ q) m) (sym e)
moved_front (suc g) k zero (x ∷ q) t at h = absurd (omega arith)
moved_front (suc g) k (suc n) (x ∷ q) t at h = ap (λ (l : List Timer). x ∷ l) (moved_front g k n q t (omega arith) (omega arith))

-- ---- ranks in a queue that a timer was taken out of

rank_front : (t x : Timer) (us : List Timer) (n : ℕ) → is_before x t ≡ true → IsRank t us n → IsRank t (x ∷ us) (suc n)
rank_front t x us n before rank = record {
  within = (let h = rank.within in omega arith);
  front = front;
  back = back;
}
  where
    front : (k : ℕ) (d : Timer) → 0 ≤ k → k < suc n → is_before (get_or (x ∷ us) k d) t ≡ true
    front zero d low high = before
    front (suc k) d low high = rank.front k d (omega arith) (omega arith)

    back : (k : ℕ) (d : Timer) → suc n ≤ k → k < length (x ∷ us) → is_before (get_or (x ∷ us) k d) t ≡ false
    back zero d low high = absurd (omega arith)
    back (suc k) d low high = rank.back k d (omega arith) (omega arith)

rank_none : (t x : Timer) (us : List Timer) → is_before x t ≡ false → IsRank t us 0 → IsRank t (x ∷ us) 0
rank_none t x us before rank = record {
  within = omega arith;
  front = λ k d low high. absurd (omega arith);
  back = back;
}
  where
    back : (k : ℕ) (d : Timer) → 0 ≤ k → k < length (x ∷ us) → is_before (get_or (x ∷ us) k d) t ≡ false
    back zero d low high = before
    back (suc k) d low high = rank.back k d (omega arith) (omega arith)

rank_none_behind : (t x : Timer) (us : List Timer) → IsRank t (x ∷ us) 0 → IsRank t us 0
rank_none_behind t x us rank = record {
  within = omega arith;
  front = λ k d low high. absurd (omega arith);
  back = λ k d low high. rank.back (suc k) d (omega arith) (omega arith);
}

-- one that stands before it
pub rank_less : (f p : ℕ) (q : List Timer) (t : Timer) → f ≤ p → f < length q → IsRank t q (suc p) → IsRank t (remove q f) p
rank_less f p [] t le h rank = absurd (omega arith)
rank_less zero p (x ∷ q) t le h rank = rank_behind t x q p rank
rank_less (suc f) zero (x ∷ q) t le h rank = absurd (omega arith)
rank_less (suc f) (suc p) (x ∷ q) t le h rank =
    rank_front t x (remove q f) p (comes_before t x q (suc p) rank)
    (rank_less f p q t (omega arith) (omega arith) (rank_behind t x q (suc p) rank))

-- one that stands behind it
pub rank_same : (f g : ℕ) (q : List Timer) (t : Timer) → g ≤ f → f < length q → IsRank t q g → IsRank t (remove q f) g
rank_same f g [] t le h rank = absurd (omega arith)
rank_same zero zero (x ∷ q) t le h rank = rank_none_behind t x q rank
rank_same zero (suc g) (x ∷ q) t le h rank = absurd (omega arith)
rank_same (suc f) zero (x ∷ q) t le h rank =
    rank_none t x (remove q f) (comes_not_before t x q rank) (rank_same f zero q t (omega arith) (omega arith) (rank_none_behind t x q rank))
rank_same (suc f) (suc g) (x ∷ q) t le h rank =
    rank_front t x (remove q f) g (comes_before t x q g rank)
    (rank_same f g q t (omega arith) (omega arith) (rank_behind t x q g rank))
