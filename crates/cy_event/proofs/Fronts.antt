-- A head that is found has a front, which has one byte at least and is within the bytes.
use Rattle.std.proofs.Common.{◌≡◌, ℕ, ◌+◌, ◌<◌, ◌≤◌, Bool, true, false, ◌&&◌, ◌||◌, not, cond, List, [], ◌∷◌, length, Option, Some, None, refl, ap, arith, ◌==◌, nat_le, take}
use Rattle.std.specs.List.{onto_first}
use Rattle.cy_event.specs.Heads.{Head, awaited, found, malformed, front_length, length_to_empty, longer_by, raw_lines, parts_at, is_empty_line, head_of, head_from_front, front_from, host_fits, whole_head, line_feed}

-- ---- the size of lines

-- all lines with a byte for the end of each
abbrev pub lines_size : List (List ℕ) → ℕ
lines_size [] = 0
lines_size (line ∷ lines) = length line + 1 + lines_size lines

lines_size-onto_first : (b : ℕ) (lines : List (List ℕ)) → 0 < lines_size lines → lines_size (onto_first b lines) ≡ lines_size lines + 1
lines_size-onto_first b [] h = absurd (omega arith)
lines_size-onto_first b (line ∷ lines) h = omega arith

lines_size-parts_at : (byte : ℕ) (bytes : List ℕ) → lines_size (parts_at byte bytes) ≡ length bytes + 1
lines_size-parts_at byte [] = refl
lines_size-parts_at byte (b ∷ bytes) =
    let rest = lines_size-parts_at byte bytes in
    elim (b == byte) as (λ v. lines_size (cond v ([] ∷ parts_at byte bytes) (onto_first b (parts_at byte bytes))) ≡ length (b ∷ bytes) + 1) [
      | true ↦ omega (arith, rest)
      | false ↦ omega (arith, rest, lines_size-onto_first b (parts_at byte bytes) (omega (arith, rest)))
    ]

-- ---- lengths

-- the length up to the empty line, where lines follow
pub to_empty-cons : (begun : Bool) (line : List ℕ) (lines : List (List ℕ)) → (lines ≡ [] → ⊥)
    → length_to_empty begun (line ∷ lines) ≡ cond (begun && is_empty_line line) (Some (length line + 1))
    (longer_by (length line + 1) (length_to_empty (begun || not (is_empty_line line)) lines))
to_empty-cons begun line [] some = absurd (some refl)
to_empty-cons begun line (a ∷ lines) some = refl

longer_by-some : (n m : ℕ) (o : Option ℕ) → longer_by n o ≡ Some m → (k : ℕ) × (o ≡ Some k) × (m ≡ n + k)
longer_by-some n m None e = cc
longer_by-some n m (Some k) e = (k, refl, cc)

length_to_empty-bounds : (begun : Bool) (lines : List (List ℕ)) (n : ℕ) → length_to_empty begun lines ≡ Some n → (0 < n) × (n + 1 ≤ lines_size lines)
length_to_empty-bounds begun [] n e = cc
length_to_empty-bounds begun (line ∷ []) n e = cc
length_to_empty-bounds begun (line ∷ next ∷ lines) n e =
    elim (begun && is_empty_line line) as (λ b. cond b (Some (length line + 1)) (longer_by (length line + 1) (length_to_empty (begun || not (is_empty_line line)) (next ∷ lines))) ≡ Some n → (0 < n) × (n + 1 ≤ lines_size (line ∷ next ∷ lines))) [
      | true ↦ λ h. let q : length line + 1 ≡ n = cc in (omega arith, omega arith)
      | false ↦ λ h.
          let w = longer_by-some (length line + 1) n (length_to_empty (begun || not (is_empty_line line)) (next ∷ lines)) h in
          let more = length_to_empty-bounds (begun || not (is_empty_line line)) (next ∷ lines) w.0 w.1 in
          (omega (arith, w.2), omega (arith, w.2, more.1))
    ] e

-- a front has one byte at least, and is within the bytes
pub front_length-bounds : (bytes : List ℕ) (n : ℕ) → front_length bytes ≡ Some n → (0 < n) × (n ≤ length bytes)
unfolding front_length
front_length-bounds bytes n e =
    let w = length_to_empty-bounds false (raw_lines bytes) n e in
    (w.0, omega (arith, w.1, lines_size-parts_at line_feed bytes))

-- ---- a head that is found is the whole front

front_from-found : (max_fields k n : ℕ) (o : Option Head) (h : Head) → front_from max_fields k o ≡ found n h → k ≡ n
front_from-found max_fields k n None h e = cc
front_from-found max_fields k n (Some g) h e =
    elim (nat_le (length g.fields) max_fields && host_fits g) as (λ v. cond v (found k g) malformed ≡ found n h → k ≡ n) [
      | true ↦ λ q. cc
      | false ↦ λ q. cc
    ] e

head_from_front-found : (max_head max_fields : ℕ) (bytes : List ℕ) (o : Option ℕ) (n : ℕ) (h : Head) → head_from_front max_head max_fields bytes o ≡ found n h → o ≡ Some n
head_from_front-found max_head max_fields bytes None n h e =
    absurd (elim (nat_le max_head (length bytes)) as (λ v. cond v malformed awaited ≡ found n h → ⊥) [
      | true ↦ λ q. cc
      | false ↦ λ q. cc
    ] e)
head_from_front-found max_head max_fields bytes (Some k) n h e =
    elim (nat_le k max_head) as (λ v. cond v (front_from max_fields k (whole_head (take k bytes))) malformed ≡ found n h → Some k ≡ Some n) [
      | true ↦ λ q. ap Some (front_from-found max_fields k n (whole_head (take k bytes)) h q)
      | false ↦ λ q. cc
    ] e

pub head_of-found : (max_head max_fields : ℕ) (bytes : List ℕ) (n : ℕ) (h : Head) → head_of max_head max_fields bytes ≡ found n h → front_length bytes ≡ Some n
unfolding head_of
head_of-found max_head max_fields bytes n h e = head_from_front-found max_head max_fields bytes (front_length bytes) n h e
