-- The marks beside a queue's places: one more place at the end, and the first one gone.
use Rattle.std.proofs.Common.{◌≡◌, ◌≢◌, ℕ, ◌+◌, ◌<◌, ◌≤◌, Bool, true, false, cond, ◌||◌, eqb, List, [], ◌∷◌, ◌++◌, length, get_or, set, refl, ap, sym, ◌∙◌, arith, inl, inr, ◌⊎◌}
use Rattle.std.specs.List.{count_by}
use Rattle.std.proofs.lemmas.Bool.{cases_eq, cases_lt, eqb-false, ne_eqb, or_parts, or_from, false≢true}
use Rattle.std.proofs.lemmas.Bool.Decides.{nat_tests}
use Rattle.std.proofs.lemmas.List.{length-set, length_push, get_or-set_same, get_or-set_other, get_or_past}
use Rattle.std.proofs.lemmas.List.Sums.{sum_by-set, count_by-le-length}
use Rattle.cy_queue.specs.Queues.{holds}
use Rattle.cy_queue.specs.Marks.{AreMarked, IsDistinct}

-- ---- a place at the end

or_false : (b : Bool) → (b || false) ≡ b
or_false true = refl
or_false false = refl

or_true : (b : Bool) → (b || true) ≡ true
or_true true = refl
or_true false = refl

or_assoc : (a b c : Bool) → (a || (b || c)) ≡ ((a || b) || c)
or_assoc true b c = refl
or_assoc false b c = refl

pub holds-push : (ns : List ℕ) (n m : ℕ) → holds (ns ++ n ∷ []) m ≡ (holds ns m || eqb n m)
holds-push [] n m = or_false (eqb n m)
holds-push (k ∷ ns) n m = ap (λ (b : Bool). eqb k m || b) (holds-push ns n m) ∙ or_assoc (eqb k m) (holds ns m) (eqb n m)

pub distinct-push : (ns : List ℕ) (n : ℕ) → holds ns n ≡ false → IsDistinct ns → IsDistinct (ns ++ n ∷ [])
distinct-push [] n new once = (refl, tt)
distinct-push (k ∷ ns) n new once =
    let parts = or_parts (eqb k n) (holds ns n) new in
    let apart : n ≢ k = λ e. eqb-false k n parts.0 (sym e) in (
      holds-push ns n k ∙ or_from (holds ns k) (eqb n k) once.0 (ne_eqb n k apart),
      distinct-push ns n parts.1 once.1,
    )

-- ---- the marks

equal_eqb : (n m : ℕ) → n ≡ m → eqb n m ≡ true
equal_eqb n m e = grind (arith, nat_tests)

abbrev weight : Bool → ℕ
weight b = cond b 1 0

count_set : (marks : List Bool) (p : ℕ) (b : Bool) → p < length marks → count_by (λ x. x) (set marks p b) + weight (get_or marks p false) ≡ count_by (λ x. x) marks + weight b
count_set marks p b below = sum_by-set weight marks p b false below

pub marks_more : (marks : List Bool) (waiting : List ℕ) (room p : ℕ) → AreMarked marks waiting room → p < length marks → get_or marks p false ≡ false
    → AreMarked (set marks p true) (waiting ++ p ∷ []) room
marks_more marks waiting room p m below idle =
    record {
      marked = λ n. at n (cases_eq n p);
      once = distinct-push waiting p (sym (m.marked p) ∙ idle) m.once;
      counted =
          let e = count_set marks p true below in
          let z : weight (get_or marks p false) ≡ 0 = ap weight idle in
          omega (arith, e, z, m.counted, length_push waiting p);
      fits = omega (arith, length-set marks p true, m.fits);
      few = omega (arith, length-set marks p true, m.few);
    }
  where
    at : (n : ℕ) → (n ≡ p) ⊎ (n ≢ p) → get_or (set marks p true) n false ≡ holds (waiting ++ p ∷ []) n
    at n (inl e) =
        ap (λ k. get_or (set marks p true) k false) e
        ∙ get_or-set_same marks p true false below
        ∙ sym (ap (λ b. holds waiting n || b) (equal_eqb p n (sym e)) ∙ or_true (holds waiting n))
        ∙ sym (holds-push waiting p n)
    at n (inr apart) =
        get_or-set_other marks p n true false apart
        ∙ m.marked n
        ∙ sym (ap (λ b. holds waiting n || b) (ne_eqb p n (λ e. apart (sym e))) ∙ or_false (holds waiting n))
        ∙ sym (holds-push waiting p n)

-- there is room for one that isn't marked
pub marks_room : (marks : List Bool) (waiting : List ℕ) (room p : ℕ) → AreMarked marks waiting room → p < length marks → get_or marks p false ≡ false → length waiting < room
marks_room marks waiting room p m below idle =
    let e = count_set marks p true below in
    let z : weight (get_or marks p false) ≡ 0 = ap weight idle in
    omega (arith, e, z, m.counted, m.fits, count_by-le-length (λ x. x) (set marks p true), length-set marks p true)

-- a place that waits is marked, and so there is such a place
pub waits_below : (marks : List Bool) (waiting : List ℕ) (room p : ℕ) → AreMarked marks waiting room → holds waiting p ≡ true → p < length marks
waits_below marks waiting room p m waits = by_order (cases_lt p (length marks))
  where
    by_order : (p < length marks) ⊎ (length marks ≤ p) → p < length marks
    by_order (inl h) = h
    by_order (inr h) = absurd (false≢true (sym (get_or_past marks p false h) ∙ m.marked p ∙ waits))

pub first_waits : (p : ℕ) (rest : List ℕ) → holds (p ∷ rest) p ≡ true
first_waits p rest = ap (λ b. b || holds rest p) (equal_eqb p p refl)

pub marks_less : (marks : List Bool) (p : ℕ) (rest : List ℕ) (room : ℕ) → AreMarked marks (p ∷ rest) room → AreMarked (set marks p false) rest room
marks_less marks p rest room m =
    let below = waits_below marks (p ∷ rest) room p m (first_waits p rest) in
    record {
      marked = λ n. at below n (cases_eq n p);
      once = m.once.1;
      counted =
          let e = count_set marks p false below in
          let z : weight (get_or marks p false) ≡ 1 = ap weight (m.marked p ∙ first_waits p rest) in
          omega (arith, e, z, m.counted);
      fits = omega (arith, length-set marks p false, m.fits);
      few = omega (arith, length-set marks p false, m.few);
    }
  where
    at : p < length marks → (n : ℕ) → (n ≡ p) ⊎ (n ≢ p) → get_or (set marks p false) n false ≡ holds rest n
    at below n (inl e) =
        ap (λ k. get_or (set marks p false) k false) e
        ∙ get_or-set_same marks p false false below
        ∙ sym m.once.0
        ∙ ap (holds rest) (sym e)
    at below n (inr apart) =
        get_or-set_other marks p n false false apart
        ∙ m.marked n
        ∙ ap (λ b. b || holds rest n) (ne_eqb p n (λ e. apart (sym e)))
