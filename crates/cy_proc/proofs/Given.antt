-- Content that is given by its count: more bytes behind change nothing of it, and one piece behind another is both.
use Rattle.std.proofs.Common.{◌≡◌, ◌≤◌, ◌<◌, ℕ, zero, suc, ◌+◌, ◌-◌, Bool, true, false, List, [], ◌∷◌, ◌++◌, length, take, drop, refl, sym, ap, ◌∙◌, arith, ltb, ltb-true, length-append, length-drop, length-take-le, if◌then◌else◌}
use Rattle.std.proofs.Math.Seq.{drop-append_seam, take-add}
use Rattle.std.proofs.lemmas.Bool.{ltb-false}
use Rattle.std.proofs.lemmas.List.{take-append-drop}
use Rattle.cy_event.specs.declared.body.BodyMark.{BodyMark}
use Rattle.cy_event.specs.Bodies.{Given, byte_before, content_in, give_bytes, given_before, is_content, scan_byte, scan_bytes}
use Rattle.cy_in.specs.Laws.{IsGiven}
use Rattle.cy_in.proofs.Choices.{tested}
use Rattle.cy_in.proofs.Counting.{all_belong, held_within}
use Rattle.cy_in.proofs.Gives.{given_is}
use Rattle.cy_in.proofs.Joins.{content_join, scan_join}

-- what is given of more bytes, by the next one
give_by : ℕ → ℕ → BodyMark → ℕ → List ℕ → Bool → Given
give_by max n m b bytes held = if held then given_before b (give_bytes max n (scan_byte max m b) bytes) else give_bytes max (suc n) (scan_byte max m b) bytes

-- what more bytes change of what is given of n bytes of content: nothing, where that many are there
abbrev IsSettled : ℕ → ℕ → BodyMark → List ℕ → List ℕ → Type 0
IsSettled max n m xs ys = n ≤ length (content_in max m xs) → give_bytes max n m (xs ++ ys) ≡ give_bytes max n m xs

more_by : (max n : ℕ) (m : BodyMark) (b : ℕ) (xs ys : List ℕ) (held : Bool) → IsSettled max n (scan_byte max m b) xs ys
    → IsSettled max (suc n) (scan_byte max m b) xs ys → suc n ≤ length (byte_before held b (content_in max (scan_byte max m b) xs))
    → give_by max n m b (xs ++ ys) held ≡ give_by max n m b xs held
unfolding give_by
more_by max n m b xs ys true fewer same enough = ap (given_before b) (fewer (omega (arith, enough)))
more_by max n m b xs ys false fewer same enough = same enough

pub give_more : (max n : ℕ) (m : BodyMark) (xs ys : List ℕ) → IsSettled max n m xs ys
unfolding give_by
give_more max zero m xs ys enough = refl
give_more max (suc n) m [] ys enough = absurd (omega (arith, enough))
give_more max (suc n) m (b ∷ xs) ys enough =
    more_by max n m b xs ys (is_content m.stage) (give_more max n (scan_byte max m b) xs ys) (give_more max (suc n) (scan_byte max m b) xs ys) enough

-- what was scanned holds it all
pub short_piece : (max n : ℕ) (m : BodyMark) (xs : List ℕ) → n ≤ length (content_in max m xs)
    → give_bytes max n m (take ((scan_bytes max m xs).raw - m.raw) xs) ≡ give_bytes max n m xs
short_piece max n m xs enough =
    let k : ℕ = (scan_bytes max m xs).raw - m.raw in
    sym (give_more max n m (take k xs) (drop k xs) (omega (arith, enough, ap length (held_within max m.raw m.content m.stage xs))))
    ∙ ap (give_bytes max n m) (take-append-drop k xs)

-- ---- one piece behind another

-- what stands behind the first n bytes of content, which are so many bytes
pub record Behind (max n : ℕ) (m : BodyMark) (xs : List ℕ) : Type 0 where
  pub size : ℕ
  pub mark : (give_bytes max n m xs).mark ≡ scan_bytes max m (take size xs)
  pub raw : (give_bytes max n m xs).mark.raw ≡ m.raw + size
  pub scan : scan_bytes max (give_bytes max n m xs).mark (drop size xs) ≡ scan_bytes max m xs
  pub first : length (content_in max m (take size xs)) ≡ n
  pub fewest : (i : ℕ) → i < size → length (content_in max m (take i xs)) < n
  pub content : content_in max (give_bytes max n m xs).mark (drop size xs) ≡ drop n (content_in max m xs)

pub behind : (max n : ℕ) (m : BodyMark) (xs : List ℕ) → n ≤ length (content_in max m xs) → Behind max n m xs
behind max n m xs enough =
    let g : IsGiven max n m xs = given_is max n m xs in
    let k : ℕ = g.passed.0 in
    let front : List ℕ = content_in max m (take k xs) in
    let mark : (give_bytes max n m xs).mark ≡ scan_bytes max m (take k xs) = g.passed.1.1.0 in
    let rest : List ℕ = content_in max (scan_bytes max m (take k xs)) (drop k xs) in
    let size : length front ≡ n =
    omega (arith, ap length g.passed.1.1.1, ap length g.content, length-take-le n (content_in max m xs) enough) in
    let all : front ++ rest ≡ content_in max m xs =
    sym (content_join max m (take k xs) (drop k xs)) ∙ ap (content_in max m) (take-append-drop k xs) in
    record {
      size = k;
      mark = mark;
      raw = ap (λ (x : BodyMark). x.raw) mark ∙ all_belong max n k m xs (g.shortest enough) size;
      scan = ap (λ (x : BodyMark). scan_bytes max x (drop k xs)) mark
          ∙ sym (scan_join max m (take k xs) (drop k xs))
          ∙ ap (scan_bytes max m) (take-append-drop k xs);
      first = size;
      fewest = g.shortest enough;
      content = ap (λ (x : BodyMark). content_in max x (drop k xs)) mark
          ∙ sym (drop-append_seam front rest)
          ∙ ap (λ (i : ℕ). drop i (front ++ rest)) size
          ∙ ap (drop n) all;
    }

-- so much content stands in some bytes more
joined : (max n : ℕ) (m : BodyMark) (xs : List ℕ) (b : Behind max n m xs) (i : ℕ)
    → length (content_in max m (take (b.size + i) xs)) ≡ n + length (content_in max (give_bytes max n m xs).mark (take i (drop b.size xs)))
joined max n m xs b i =
    let part : List ℕ = take i (drop b.size xs) in
    let split = ap (content_in max m) (take-add b.size i xs) ∙ content_join max m (take b.size xs) part in
    omega (
      arith,
      ap length split,
      length-append (content_in max m (take b.size xs)) (content_in max (scan_bytes max m (take b.size xs)) part),
      b.first,
      ap (λ (x : BodyMark). length (content_in max x part)) b.mark,
    )

-- k bytes of content behind n are n + k
pub both : (max n k : ℕ) (m : BodyMark) (xs : List ℕ) → n + k ≤ length (content_in max m xs) → (b : Behind max n m xs)
    → (give_bytes max k (give_bytes max n m xs).mark (drop b.size xs)).mark ≡ (give_bytes max (n + k) m xs).mark
both max n k m xs enough b =
    let mid : BodyMark = (give_bytes max n m xs).mark in
    let rest : List ℕ = drop b.size xs in
    let second : IsGiven max k mid rest = given_is max k mid rest in
    let whole : IsGiven max (n + k) m xs = given_is max (n + k) m xs in
    let i : ℕ = second.passed.0 in
    let j : ℕ = whole.passed.0 in
    let left : k ≤ length (content_in max mid rest) = omega (arith, ap length b.content, length-drop n (content_in max m xs), enough) in
    let second_size : length (content_in max mid (take i rest)) ≡ k =
    omega (arith, ap length second.passed.1.1.1, ap length second.content, length-take-le k (content_in max mid rest) left) in
    let whole_size : length (content_in max m (take j xs)) ≡ n + k =
    omega (arith, ap length whole.passed.1.1.1, ap length whole.content, length-take-le (n + k) (content_in max m xs) enough) in
    let fewer : (ltb j (b.size + i) ≡ true) → j ≡ b.size + i = λ less.
    tested (ltb j b.size) (j ≡ b.size + i)
    (λ before. absurd (omega (arith, b.fewest j (omega (arith, ltb-true j b.size before)), whole_size)))
    (λ within.
    let place : b.size + (j - b.size) ≡ j = omega (arith, ltb-false j b.size within) in
    absurd (omega (
      arith,
      second.shortest left (j - b.size) (omega (arith, ltb-true j (b.size + i) less, place)),
      joined max n m xs b (j - b.size),
      ap (λ (x : ℕ). length (content_in max m (take x xs))) place,
      whole_size,
    ))) in
    let more : (ltb j (b.size + i) ≡ false) → j ≡ b.size + i = λ least.
    tested (ltb (b.size + i) j) (j ≡ b.size + i)
    (λ less. absurd (omega (arith, whole.shortest enough (b.size + i) (omega (arith, ltb-true (b.size + i) j less)), joined max n m xs b i, second_size)))
    (λ most. omega (arith, ltb-false j (b.size + i) least, ltb-false (b.size + i) j most)) in
    let same : j ≡ b.size + i = tested (ltb j (b.size + i)) (j ≡ b.size + i) fewer more in
    second.passed.1.1.0
    ∙ ap (λ (x : BodyMark). scan_bytes max x (take i rest)) b.mark
    ∙ sym (scan_join max m (take b.size xs) (take i rest))
    ∙ ap (scan_bytes max m) (sym (take-add b.size i xs))
    ∙ ap (λ (x : ℕ). scan_bytes max m (take x xs)) (sym same)
    ∙ sym whole.passed.1.1.0
