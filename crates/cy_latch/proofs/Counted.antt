-- After any calls the latch counts the shares that were given out and not left.
use Rattle.std.proofs.Common.{◌≡◌, ◌≢◌, ℕ, ◌+◌, ◌*◌, ◌<◌, ◌≤◌, Bool, true, false, cond, ◌||◌, eqb, List, [], ◌∷◌, length, set, replicate, refl, ap, sym, ◌∙◌, subst, arith, inl, inr, ◌⊎◌}
use Rattle.std.proofs.lemmas.Bool.{cases_eq, cases_lt, eq-eqb, eqb-true, ne_eqb, or_parts, or_from, false≢true}
use Rattle.std.proofs.lemmas.List.{length-set, length-replicate, get_or-replicate, get_or_past}
use Rattle.std.proofs.lemmas.List.Folds.{sum_by-replicate}
use Rattle.std.proofs.lemmas.List.Sums.{count_by-le-length}
use Rattle.cy_latch.specs.Numbers.{IsDistinct, count_out, holds, is_out}
use Rattle.cy_latch.specs.Runs.{EachCame, IsRun, LatchCountsItsShares, Turn, entered, entered_count, given, left, left_count, was_full, without}
use Rattle.cy_latch.proofs.Sets.{count_drawn, count_left, is_out-set_other, is_out-set_same, out_is_below}

-- ---- a list without a number

-- what isn't held isn't held without a number either
holds-without : (n m : ℕ) (ns : List ℕ) → holds ns m ≡ false → holds (without n ns) m ≡ false
holds-without n m [] h = refl
holds-without n m (k ∷ ns) h =
    let parts = or_parts (eqb k m) (holds ns m) h in
    elim (eqb k n) as (λ b. holds (cond b ns (k ∷ without n ns)) m ≡ false) [
      | true ↦ parts.1
      | false ↦ or_from (eqb k m) (holds (without n ns) m) parts.0 (holds-without n m ns parts.1)
    ]

distinct-without : (n : ℕ) (ns : List ℕ) → IsDistinct ns → IsDistinct (without n ns)
distinct-without n [] d = tt
distinct-without n (k ∷ ns) d =
    elim (eqb k n) as (λ b. IsDistinct (cond b ns (k ∷ without n ns))) [
      | true ↦ d.1
      | false ↦ (holds-without n k ns d.0, distinct-without n ns d.1)
    ]

-- the number itself is gone
gone : (n : ℕ) (ns : List ℕ) → IsDistinct ns → holds (without n ns) n ≡ false
gone n [] d = refl
gone n (k ∷ ns) d = by_case (eqb k n) refl (gone n ns d.1)
  where
    by_case : (b : Bool) → eqb k n ≡ b → holds (without n ns) n ≡ false → holds (cond b ns (k ∷ without n ns)) n ≡ false
    by_case true e rest = subst (λ (m : ℕ). holds ns m ≡ false) (eqb-true k n e) d.0
    by_case false e rest = or_from (eqb k n) (holds (without n ns) n) e rest

-- and no other
others_stay : (n m : ℕ) (ns : List ℕ) → m ≢ n → holds (without n ns) m ≡ holds ns m
others_stay n m [] other = refl
others_stay n m (k ∷ ns) other = by_case (eqb k n) refl (others_stay n m ns other)
  where
    by_case : (b : Bool) → eqb k n ≡ b → holds (without n ns) m ≡ holds ns m → holds (cond b ns (k ∷ without n ns)) m ≡ (eqb k m || holds ns m)
    by_case true e rest = ap (λ (c : Bool). c || holds ns m) (sym (ne_eqb k m (λ f. other (sym f ∙ eqb-true k n e))))
    by_case false e rest = ap (λ (c : Bool). eqb k m || c) rest

length-without : (n : ℕ) (ns : List ℕ) → holds ns n ≡ true → length (without n ns) + 1 ≡ length ns
length-without n [] h = cc
length-without n (k ∷ ns) h = by_case (eqb k n) h (length-without n ns)
  where
    by_case : (b : Bool) → (b || holds ns n) ≡ true → (holds ns n ≡ true → length (without n ns) + 1 ≡ length ns) → length (cond b ns (k ∷ without n ns)) + 1 ≡ length (k ∷ ns)
    by_case true e rest = omega arith
    by_case false e rest = let f = rest e in omega (arith, f)

without_other : (n : ℕ) (ns : List ℕ) → holds ns n ≡ false → without n ns ≡ ns
without_other n [] h = refl
without_other n (k ∷ ns) h = by_case (eqb k n) h (without_other n ns)
  where
    by_case : (b : Bool) → (b || holds ns n) ≡ false → (holds ns n ≡ false → without n ns ≡ ns) → cond b ns (k ∷ without n ns) ≡ k ∷ ns
    by_case true e rest = cc
    by_case false e rest = ap (λ (ms : List ℕ). k ∷ ms) (rest e)

-- ---- the calls

record Holds (limit : ℕ) (turns : List Turn) (numbers : List Bool) : Type 0 where
  pub size : length numbers ≡ limit
  pub once : IsDistinct (given turns)
  pub out : (n : ℕ) → is_out numbers n ≡ holds (given turns) n
  pub counted : count_out numbers ≡ length (given turns)
  pub balanced : EachCame turns → count_out numbers + left_count turns ≡ entered_count turns

at_first : (limit : ℕ) → Holds limit [] (replicate limit false)
at_first limit =
    let none : count_out (replicate limit false) ≡ limit * 0 = sum_by-replicate (λ (b : Bool). cond b 1 0) limit false in
    record {
      size = length-replicate limit false;
      once = tt;
      out = λ n. idle n (cases_lt n limit);
      counted = omega (arith, none);
      balanced = λ came. omega (arith, none);
    }
  where
    idle : (n : ℕ) → (n < limit) ⊎ (limit ≤ n) → is_out (replicate limit false) n ≡ false
    idle n (inl h) = get_or-replicate limit n false false h
    idle n (inr h) = get_or_past (replicate limit false) n false (let e = length-replicate limit false in omega (arith, e))

when_entered : (limit n : ℕ) (before : List Turn) (old : List Bool) → n < length old → is_out old n ≡ false → Holds limit before old → Holds limit (entered n ∷ before) (set old n true)
when_entered limit n before old below idle h =
    let count = count_drawn old n below idle in
    record {
      size = length-set old n true ∙ h.size;
      once = (sym (h.out n) ∙ idle, h.once);
      out = λ m. by_number m (cases_eq m n);
      counted = omega (arith, count, h.counted);
      balanced = λ came. let e = h.balanced came in omega (arith, count, e);
    }
  where
    by_number : (m : ℕ) → (m ≡ n) ⊎ (m ≡ n → ⊥) → is_out (set old n true) m ≡ (eqb n m || holds (given before) m)
    by_number m (inl e) =
        ap (λ (k : ℕ). is_out (set old n true) k) e ∙ is_out-set_same old n true below
        ∙ ap (λ (b : Bool). b || holds (given before) m) (sym (eq-eqb n m (sym e)))
    by_number m (inr other) =
        is_out-set_other old n m true other ∙ h.out m
        ∙ ap (λ (b : Bool). b || holds (given before) m) (sym (ne_eqb n m (λ e. other (sym e))))

when_left_out : (limit n : ℕ) (before : List Turn) (old : List Bool) → is_out old n ≡ true → Holds limit before old → Holds limit (left n ∷ before) (set old n false)
when_left_out limit n before old out h =
    let below = out_is_below old n out in
    let count = count_left old n below out in
    let held : holds (given before) n ≡ true = sym (h.out n) ∙ out in
    let fewer = length-without n (given before) held in
    record {
      size = length-set old n false ∙ h.size;
      once = distinct-without n (given before) h.once;
      out = λ m. by_number below m (cases_eq m n);
      counted = omega (arith, count, fewer, h.counted);
      balanced = λ came. let e = h.balanced came.1 in omega (arith, count, e);
    }
  where
    by_number : n < length old → (m : ℕ) → (m ≡ n) ⊎ (m ≡ n → ⊥) → is_out (set old n false) m ≡ holds (without n (given before)) m
    by_number below m (inl e) =
        ap (λ (k : ℕ). is_out (set old n false) k) e ∙ is_out-set_same old n false below
        ∙ sym (gone n (given before) h.once) ∙ ap (λ (k : ℕ). holds (without n (given before)) k) (sym e)
    by_number below m (inr other) = is_out-set_other old n m false other ∙ h.out m ∙ sym (others_stay n m (given before) other)

when_left_idle : (limit n : ℕ) (before : List Turn) (old : List Bool) → is_out old n ≡ false → Holds limit before old → Holds limit (left n ∷ before) old
when_left_idle limit n before old idle h =
    let same = without_other n (given before) (sym (h.out n) ∙ idle) in
    record {
      size = h.size;
      once = subst IsDistinct (sym same) h.once;
      out = λ m. h.out m ∙ ap (λ (ns : List ℕ). holds ns m) (sym same);
      counted = h.counted ∙ ap length (sym same);
      balanced = λ came. absurd (false≢true (sym idle ∙ h.out n ∙ came.0));
    }

when_left : (limit n : ℕ) (before : List Turn) (old : List Bool) (b : Bool) → is_out old n ≡ b → Holds limit before old → Holds limit (left n ∷ before) (cond b (set old n false) old)
when_left limit n before old true e h = when_left_out limit n before old e h
when_left limit n before old false e h = when_left_idle limit n before old e h

holds_along : (limit : ℕ) (turns : List Turn) (numbers : List Bool) → IsRun limit turns numbers → Holds limit turns numbers
holds_along limit [] numbers run = subst (λ (v : List Bool). Holds limit [] v) (sym run) (at_first limit)
holds_along limit (entered n ∷ before) numbers run =
    subst (λ (v : List Bool). Holds limit (entered n ∷ before) v) (sym run.2.2)
    (when_entered limit n before run.0 run.2.0 run.2.1 (holds_along limit before run.0 run.1))
holds_along limit (was_full ∷ before) numbers run =
    let h = holds_along limit before run.0 run.1 in
    subst (λ (v : List Bool). Holds limit (was_full ∷ before) v) (sym run.2.1)
    (record { size = h.size; once = h.once; out = h.out; counted = h.counted; balanced = h.balanced })
holds_along limit (left n ∷ before) numbers run =
    subst (λ (v : List Bool). Holds limit (left n ∷ before) v) (sym run.2)
    (when_left limit n before run.0 (is_out run.0 n) refl (holds_along limit before run.0 run.1))

pub latch_counts : LatchCountsItsShares
latch_counts limit turns numbers run =
    let h = holds_along limit turns numbers run in
    record {
      once = h.once;
      out = h.out;
      limited = (let e = count_by-le-length (λ (b : Bool). b) numbers in omega (arith, e, h.size));
      counted = h.counted;
      balanced = h.balanced;
    }
