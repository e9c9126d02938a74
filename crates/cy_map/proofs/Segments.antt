-- What stands after the last byte of a kind.
use Rattle.std.proofs.Common.{◌≡◌, ℕ, ◌+◌, ◌-◌, ◌<◌, Bool, true, false, not, List, length, drop, None, Some, refl, sym, ◌∙◌, ap, subst, arith, get_or, take, length-drop, nat_eq}
use Rattle.memchr.specs.Find.{IsLastByte, is_byte}
use Rattle.std.proofs.Math.Seq.{take-length}
use Rattle.std.proofs.lemmas.List.{get_or_default}
use Rattle.std.proofs.lemmas.List.Folds.{list_any_at, list_any_none}
use Rattle.cy_map.specs.Patterns.{dot, has_byte, last_segment, extension_of}
use Rattle.std.specs.List.{after_last, suffix_len}
use Rattle.std.proofs.lemmas.List.Sums.{suffix_len_is}

-- the byte stands at this place, and no later one is it
pub after_place : (byte : ℕ) (text : List ℕ) (place : ℕ) → place < length text → nat_eq (get_or text place 0) byte ≡ true
    → ((k : ℕ) → place < k → k < length text → nat_eq (get_or text k 0) byte ≡ false) → after_last (λ b. nat_eq b byte) text ≡ drop (place + 1) text
after_place byte text place within is none =
    let len : suffix_len (λ b. not (nat_eq b byte)) text ≡ length text - (place + 1) =
    suffix_len_is (λ b. not (nat_eq b byte)) text (place + 1) 0 (omega arith)
    (λ k from to. let later : nat_eq (get_or text k 0) byte ≡ false = none k (omega arith) to in rw later refl)
    (λ _. let here : nat_eq (get_or text (place + 1 - 1) 0) byte ≡ true = subst (λ p. nat_eq (get_or text p 0) byte ≡ true) (omega arith) is in rw here refl) in
    let cut : length text - suffix_len (λ b. not (nat_eq b byte)) text ≡ place + 1 = omega (arith, len) in
    ap (λ n. drop n text) cut

-- no byte of it is the one
pub after_none : (byte : ℕ) (text : List ℕ) → ((k : ℕ) → k < length text → nat_eq (get_or text k 0) byte ≡ false) → after_last (λ b. nat_eq b byte) text ≡ text
after_none byte text none =
    let len : suffix_len (λ b. not (nat_eq b byte)) text ≡ length text - 0 =
    suffix_len_is (λ b. not (nat_eq b byte)) text 0 0 (omega arith)
    (λ k from to. let other : nat_eq (get_or text k 0) byte ≡ false = none k to in rw other refl)
    (λ some. absurd (omega (arith, some))) in
    let cut : length text - suffix_len (λ b. not (nat_eq b byte)) text ≡ 0 = omega (arith, len) in
    ap (λ n. drop n text) cut

-- ---- what a search from the back tells

take_all_of : (n : ℕ) (text : List ℕ) → length text ≡ n → take n text ≡ text
take_all_of n text is = rw (← is) (take-length text)

differs : (b : Bool) → (b ≡ true → ⊥) → b ≡ false
differs true never = absurd (never refl)
differs false never = refl

pub after_last_byte : (byte : ℕ) (text : List ℕ) (place : ℕ) → IsLastByte (is_byte byte) text (Some place)
    → take (length text - (place + 1)) (drop (place + 1) text) ≡ after_last (λ b. nat_eq b byte) text
after_last_byte byte text place last =
    take_all_of (length text - (place + 1)) (drop (place + 1) text) (length-drop (place + 1) text)
    ∙ sym (after_place byte text place last.0.high last.1 (λ k from to. differs _ (last.0.after k (omega (arith, from)) to)))

pub after_no_byte : (byte : ℕ) (text : List ℕ) → IsLastByte (is_byte byte) text None → after_last (λ b. nat_eq b byte) text ≡ text
after_no_byte byte text none = after_none byte text (λ k to. differs _ (none k (omega arith) to))

-- the byte stands there
stands : (byte : ℕ) (text : List ℕ) (place : ℕ) → IsLastByte (is_byte byte) text (Some place) → has_byte byte text ≡ true
stands byte text place last = list_any_at (λ b. nat_eq b byte) text place 0 last.0.high last.1

same_default : (byte : ℕ) (text : List ℕ) (k d : ℕ) → k < length text → nat_eq (get_or text k d) byte ≡ true → nat_eq (get_or text k 0) byte ≡ true
same_default byte text k d within is = subst (λ b. nat_eq b byte ≡ true) (get_or_default text k d 0 within) is

stands_nowhere : (byte : ℕ) (text : List ℕ) → IsLastByte (is_byte byte) text None → has_byte byte text ≡ false
stands_nowhere byte text none = list_any_none (λ b. nat_eq b byte) text (λ k d within. differs _ (λ is. none k (omega arith) within (same_default byte text k d within is)))

pub after_last_dot : (path segment : List ℕ) (place : ℕ) → segment ≡ last_segment path → IsLastByte (is_byte dot) segment (Some place)
    → Some (take (length segment - (place + 1)) (drop (place + 1) segment)) ≡ extension_of path
after_last_dot path segment place is last =
    rw (← is, stands dot segment place last) (ap (λ t. Some t) (after_last_byte dot segment place last))

pub after_no_dot : (path segment : List ℕ) → segment ≡ last_segment path → IsLastByte (is_byte dot) segment None → None ≡ extension_of path
after_no_dot path segment is none = rw (← is, stands_nowhere dot segment none) refl
