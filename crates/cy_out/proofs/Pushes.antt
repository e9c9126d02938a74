-- Bytes that are pushed one by one, taken many at a time.
use Rattle.std.proofs.Common.{◌≡◌, ℕ, suc, ◌+◌, ◌-◌, ◌<◌, ◌≤◌, Bool, true, false, List, [], ◌∷◌, ◌++◌, length, take, drop, Option, Some, None, refl, sym, ap, subst, ◌∙◌, arith, append_assoc, append-nil, length-append, length-drop, length-take-le}
use Rattle.std.proofs.lemmas.List.{drop-drop, take-append-drop}
use Rattle.std.proofs.Math.Seq.{take-length}
use Rattle.std.specs.Prelude.{not, ◌||◌, nat_lt, option_map}
use Rattle.std.proofs.lemmas.Bool.Decides.{nat_tests}
use Rattle.cy_event.specs.Answers.{Answer}
use Rattle.cy_event.specs.Answering.{Answering, Sending, Took, can_cut, can_take, cut, is_buffer_full, more_by, passes_length, push_byte, push_bytes, with_bytes, with_room}

-- with these bytes more behind what waits
abbrev pub filled : List ℕ → Answering → Answering
filled bytes a = record a { sending = with_bytes bytes a.sending }

pub fewer_by_none : (n : Option ℕ) → option_map (λ m. m - 0) n ≡ n
fewer_by_none None = refl
fewer_by_none (Some n) = let same : n - 0 ≡ n = omega arith in ap Some same

pub fewer_by_both : (n : Option ℕ) (i j : ℕ) → option_map (λ m. m - j) (option_map (λ m. m - i) n) ≡ option_map (λ m. m - (i + j)) n
fewer_by_both None i j = refl
fewer_by_both (Some n) i j = let same : n - i - j ≡ n - (i + j) = omega arith in ap Some same

filled_by_none : (a : Answering) → filled [] a ≡ a
filled_by_none a =
    let waiting = append-nil a.sending.waiting in
    let left = fewer_by_none a.sending.left in
    λ i. record { sending = record { asked = a.sending.asked; left = left i; waiting = waiting i; commit = a.sending.commit }; output = a.output }

filled_by_both : (a : Answering) (b : ℕ) (bytes : List ℕ) → filled bytes (filled (b ∷ []) a) ≡ filled (b ∷ bytes) a
filled_by_both a b bytes =
    let waiting = append_assoc a.sending.waiting (b ∷ []) bytes in
    let count : 1 + length bytes ≡ length (b ∷ bytes) = omega arith in
    let left = fewer_by_both a.sending.left 1 (length bytes) ∙ ap (λ (n : ℕ). option_map (λ m. m - n) a.sending.left) count in
    λ i. record { sending = record { asked = a.sending.asked; left = left i; waiting = waiting i; commit = a.sending.commit }; output = a.output }

not_full : (a : Answering) → length a.sending.waiting < 8192 → is_buffer_full a.sending ≡ false
not_full a few = grind (arith, nat_tests)

-- one byte, where it can be taken, and where not
pub push_one : (head : Answer) (at b : ℕ) (bytes : List ℕ) (a : Answering) → can_take a ≡ true
    → push_bytes head at (b ∷ bytes) a ≡ more_by 1 (push_bytes head at bytes (push_byte head at b a))
push_one head at b bytes a takes =
    ap (λ (t : Bool). elim t [ true ↦ more_by 1 (push_bytes head at bytes (push_byte head at b a)) | false ↦ record { count = 0; after = a } ]) takes

-- no byte is taken where none can be
pub push_none : (head : Answer) (at : ℕ) (bytes : List ℕ) (a : Answering) → can_take a ≡ false → push_bytes head at bytes a ≡ record { count = 0; after = a }
push_none head at [] a stuck = refl
push_none head at (b ∷ bytes) a stuck =
    ap (λ (t : Bool). elim t [ true ↦ more_by 1 (push_bytes head at bytes (push_byte head at b a)) | false ↦ record { count = 0; after = a } ]) stuck

-- one byte, where the buffer has room
pub push_into_room : (head : Answer) (at b : ℕ) (bytes : List ℕ) (a : Answering) → length a.sending.waiting < 8192
    → push_bytes head at (b ∷ bytes) a ≡ more_by 1 (push_bytes head at bytes (filled (b ∷ []) a))
push_into_room head at b bytes a few =
    let takes : can_take a ≡ true = ap (λ (t : Bool). not t || can_cut a.output) (not_full a few) in
    let roomy : with_room head at a ≡ a = ap (λ (t : Bool). elim t [ true ↦ cut head at a | false ↦ a ]) (not_full a few) in
    push_one head at b bytes a takes ∙ ap (λ (r : Answering). more_by 1 (push_bytes head at bytes (filled (b ∷ []) r))) roomy

more_by_none : (t : Took) → more_by 0 t ≡ t
more_by_none t = let same : 0 + t.count ≡ t.count = omega arith in λ i. record { count = same i; after = t.after }

pub more_by_both : (m n : ℕ) (t : Took) → more_by m (more_by n t) ≡ more_by (m + n) t
more_by_both m n t = let same : m + (n + t.count) ≡ m + n + t.count = omega arith in λ i. record { count = same i; after = t.after }

-- as many bytes as the buffer has room for
pub push_front : (head : Answer) (at : ℕ) (front bytes : List ℕ) (a : Answering) → length a.sending.waiting + length front ≤ 8192
    → push_bytes head at (front ++ bytes) a ≡ more_by (length front) (push_bytes head at bytes (filled front a))
push_front head at [] bytes a few =
    sym (more_by_none (push_bytes head at bytes (filled [] a)) ∙ ap (push_bytes head at bytes) (filled_by_none a))
push_front head at (b ∷ front) bytes a few =
    let one = filled (b ∷ []) a in
    let longer : length one.sending.waiting ≡ length a.sending.waiting + 1 = length-append a.sending.waiting (b ∷ []) in
    push_into_room head at b (front ++ bytes) a (omega arith)
    ∙ ap (more_by 1) (push_front head at front bytes one (omega arith))
    ∙ more_by_both 1 (length front) (push_bytes head at bytes (filled front one))
    ∙ (λ i. more_by (add_up (length front) i) (push_bytes head at bytes (filled_by_both a b front i)))
  where
    add_up : (n : ℕ) → 1 + n ≡ suc n
    add_up n = omega arith

-- room is made before a byte that can be taken
push_with_room : (head : Answer) (at b : ℕ) (bytes : List ℕ) (a : Answering) → can_take a ≡ true → length (with_room head at a).sending.waiting < 8192
    → push_bytes head at (b ∷ bytes) a ≡ push_bytes head at (b ∷ bytes) (with_room head at a)
push_with_room head at b bytes a takes few = push_one head at b bytes a takes ∙ sym (push_into_room head at b bytes (with_room head at a) few)

with_room_to_some : (head : Answer) (at : ℕ) (bytes : List ℕ) (a : Answering) → 0 < length bytes → can_take a ≡ true → length (with_room head at a).sending.waiting < 8192
    → push_bytes head at bytes a ≡ push_bytes head at bytes (with_room head at a)
with_room_to_some head at [] a some takes few = absurd (omega arith)
with_room_to_some head at (b ∷ bytes) a some takes few = push_with_room head at b bytes a takes few

-- so many more were taken, where room was made for them
pub pushed_more : (head : Answer) (at : ℕ) (bytes : List ℕ) (all : Took) (taken n : ℕ) (a m : Answering)
    → taken < length bytes → n ≤ length (drop taken bytes) → length m.sending.waiting + n ≤ 8192 → length m.sending.waiting < 8192
    → can_take a ≡ true → m ≡ with_room head at a → all ≡ more_by taken (push_bytes head at (drop taken bytes) a)
    → all ≡ more_by (taken + n) (push_bytes head at (drop (taken + n) bytes) (filled (take n (drop taken bytes)) m))
pushed_more head at bytes all taken n a m inside fits room few takes roomy before =
    let rest = drop taken bytes in
    let some : 0 < length rest = omega (arith, length-drop taken bytes) in
    let few_there = subst (λ (x : Answering). length x.sending.waiting < 8192) roomy few in
    let front = take n rest in
    let size : length front ≡ n = length-take-le n rest fits in
    let whole : front ++ drop n rest ≡ rest = take-append-drop n rest in
    before
    ∙ ap (more_by taken) (
    with_room_to_some head at rest a some takes few_there
    ∙ ap (push_bytes head at rest) (sym roomy)
    ∙ ap (λ (xs : List ℕ). push_bytes head at xs m) (sym whole)
    ∙ push_front head at front (drop n rest) m (omega arith)
    )
    ∙ more_by_both taken (length front) (push_bytes head at (drop n rest) (filled front m))
    ∙ (λ i. more_by (taken + size i) (push_bytes head at (drop-drop n taken bytes i) (filled front m)))

pub fits_less : (left : Option ℕ) (i j k : ℕ) → i + j ≡ k → elim left [ None ↦ false | Some l ↦ nat_lt l k ] ≡ false
    → elim (option_map (λ n. n - i) left) [ None ↦ false | Some l ↦ nat_lt l j ] ≡ false
fits_less None i j k sum fits = refl
fits_less (Some l) i j k sum fits = grind (arith, nat_tests)

-- the rest passes no length where the whole didn't
pub rest_fits : (s : Sending) (bytes : List ℕ) (j k : ℕ) → length bytes + j ≡ k → passes_length s k ≡ false → passes_length (with_bytes bytes s) j ≡ false
rest_fits s bytes j k sum fits = fits_less s.left (length bytes) j k sum fits

-- what stands behind so many bytes, as a slice gives it
pub rest_is : (bytes : List ℕ) (taken : ℕ) → take (length bytes - taken) (drop taken bytes) ≡ drop taken bytes
rest_is bytes taken = ap (λ (n : ℕ). take n (drop taken bytes)) (sym (length-drop taken bytes)) ∙ take-length (drop taken bytes)
