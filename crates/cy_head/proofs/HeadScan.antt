-- What the search for the front keeps, line by line.
use Rattle.std.proofs.Common.{◌≡◌, ℕ, ◌+◌, ◌-◌, ◌<◌, ◌≤◌, Bool, true, false, not, ◌&&◌, ◌||◌, List, [], ◌∷◌, ◌++◌, length, get_or, take, drop, refl, sym, ap, ◌∙◌, subst, arith, eqb, Option, Some, None, length-take-le, length-drop, take-append-drop}
use Rattle.std.proofs.lemmas.List.{drop_more, take_all}
use Rattle.std.proofs.lemmas.List.Elements.{All-from_get_or}
use Rattle.std.proofs.lemmas.Bool.{cond-true, cond-false, eqb-true, not_from_true, and_from, not_from_false, or_right, or_from, and_left, and_right}
use Rattle.memchr.specs.Find.{IsFirstByte, is_byte}
use Rattle.cy_event.specs.Heads.{raw_lines, is_empty_line, longer_by, length_to_empty, front_length}
use Rattle.cy_event.proofs.Cuts.{Lacks, lacks_before, parts_at-first, parts_at-last, parts_at-some}

-- the first line ends at the first LF
line_at : (rest : List ℕ) (end : ℕ) → IsFirstByte (is_byte 10) rest (Some end) → raw_lines rest ≡ take end rest ∷ raw_lines (drop (end + 1) rest)
line_at rest end first =
    let inside : end < length rest = first.0.high in
    let here : get_or rest end 0 ≡ 10 = eqb-true _ _ first.1 in
    let lacks : Lacks 10 (take end rest)
    = lacks_before 10 rest end (omega arith) (λ k below. ne_true (eqb (get_or rest k 0) 10) (first.0.before k (omega arith) below)) in
    let split : rest ≡ take end rest ++ 10 ∷ drop (end + 1) rest
    = sym (take-append-drop end rest) ∙ ap (λ (r : List ℕ). take end rest ++ r) (drop_more rest end 0 inside ∙ ap (λ (b : ℕ). b ∷ drop (end + 1) rest) here) in
    ap raw_lines split ∙ parts_at-first 10 _ _ lacks
  where
    ne_true : (b : Bool) → (b ≡ true → ⊥) → b ≡ false
    ne_true true h = absurd (h refl)
    ne_true false h = refl

-- what stands behind the first LF
pub rest_is : (rest : List ℕ) (end : ℕ) → take (length rest - (end + 1)) (drop (end + 1) rest) ≡ drop (end + 1) rest
rest_is rest end = take_all _ (drop (end + 1) rest) (omega (arith, length-drop (end + 1) rest))

longer_by-twice : (a b : ℕ) (o : Option ℕ) → longer_by a (longer_by b o) ≡ longer_by (a + b) o
longer_by-twice a b None = refl
longer_by-twice a b (Some n) = let e : a + (b + n) ≡ a + b + n = omega arith in rw e

longer_by-zero : (n : ℕ) (o : Option ℕ) → n ≡ 0 → longer_by n o ≡ o
longer_by-zero n None zero = refl
longer_by-zero n (Some m) zero = let e : n + m ≡ m = omega arith in rw e

to_empty-stop : (begun : Bool) (line : List ℕ) (lines : List (List ℕ)) → (lines ≡ [] → ⊥) → begun ≡ true → is_empty_line line ≡ true
    → length_to_empty begun (line ∷ lines) ≡ Some (length line + 1)
to_empty-stop begun line [] some b e = absurd (some refl)
to_empty-stop begun line (a ∷ lines) some b e = cond-true _ _ _ (and_from _ _ b e)

to_empty-more : (begun : Bool) (line : List ℕ) (lines : List (List ℕ)) → (lines ≡ [] → ⊥) → (begun && is_empty_line line) ≡ false
    → length_to_empty begun (line ∷ lines) ≡ longer_by (length line + 1) (length_to_empty (begun || not (is_empty_line line)) lines)
to_empty-more begun line [] some b = absurd (some refl)
to_empty-more begun line (a ∷ lines) some b = cond-false _ _ _ b

-- the lines before the rest are counted
pub record Scan (bytes rest : List ℕ) (begun : Bool) : Type 0 where
  pub within : length rest ≤ length bytes
  pub counted : front_length bytes ≡ longer_by (length bytes - length rest) (length_to_empty begun (raw_lines rest))

pub scan_begins : (bytes : List ℕ) → Scan bytes bytes false
unfolding front_length
scan_begins bytes = record { within = omega arith; counted = sym (longer_by-zero _ _ (omega arith)) }

scan_line : (bytes rest after : List ℕ) (end : ℕ) (begun empty : Bool) → Scan bytes rest begun → IsFirstByte (is_byte 10) rest (Some end)
    → after ≡ drop (end + 1) rest → empty ≡ is_empty_line (take end rest) → (begun && empty) ≡ false → Scan bytes after (begun || not empty)
scan_line bytes rest after end begun empty scan first is_after is goes_on =
    let line = take end rest in
    let inside : end < length rest = first.0.high in
    let left : length after ≡ length rest - (end + 1) = ap (λ (xs : List ℕ). length xs) is_after ∙ length-drop (end + 1) rest in
    let size : (length bytes - length rest) + (length line + 1) ≡ length bytes - length after
    = omega (arith, length-take-le end rest (omega arith), scan.within, left, inside) in
    record {
      within = omega (arith, scan.within, left);
      counted = scan.counted
          ∙ ap (λ (ls : List (List ℕ)). longer_by (length bytes - length rest) (length_to_empty begun ls)) (line_at rest end first)
          ∙ ap (longer_by (length bytes - length rest)) (to_empty-more begun line _ (parts_at-some 10 (drop (end + 1) rest)) (subst (λ (e : Bool). (begun && e) ≡ false) is goes_on))
          ∙ longer_by-twice _ (length line + 1) _
          ∙ ap (λ (n : ℕ). longer_by n (length_to_empty (begun || not (is_empty_line line)) (raw_lines (drop (end + 1) rest)))) size
          ∙ ap (λ (e : Bool). longer_by (length bytes - length after) (length_to_empty (begun || not e) (raw_lines (drop (end + 1) rest)))) (sym is)
          ∙ ap (λ (xs : List ℕ). longer_by (length bytes - length after) (length_to_empty (begun || not empty) (raw_lines xs))) (sym is_after);
    }

-- a line that isn't empty
pub scan_text : (bytes rest after : List ℕ) (end : ℕ) (begun empty : Bool) → Scan bytes rest begun → IsFirstByte (is_byte 10) rest (Some end)
    → after ≡ drop (end + 1) rest → empty ≡ is_empty_line (take end rest) → empty ≡ false → Scan bytes after true
scan_text bytes rest after end begun empty scan first is_after is not_empty =
    subst (Scan bytes after) (or_right begun (not empty) (not_from_false empty not_empty))
    (scan_line bytes rest after end begun empty scan first is_after is (and_right begun empty not_empty))

-- an empty line before the first that isn't
pub scan_blank : (bytes rest after : List ℕ) (end : ℕ) (begun empty : Bool) → Scan bytes rest begun → IsFirstByte (is_byte 10) rest (Some end)
    → after ≡ drop (end + 1) rest → empty ≡ is_empty_line (take end rest) → empty ≡ true → begun ≡ false → Scan bytes after begun
scan_blank bytes rest after end begun empty scan first is_after is blank before =
    subst (Scan bytes after) (or_from begun (not empty) before (not_from_true empty blank) ∙ sym before)
    (scan_line bytes rest after end begun empty scan first is_after is (and_left begun empty before))

-- the empty line that ends the front
pub scan_stops : (bytes rest after : List ℕ) (end : ℕ) (begun empty : Bool) → Scan bytes rest begun → IsFirstByte (is_byte 10) rest (Some end)
    → after ≡ drop (end + 1) rest → empty ≡ is_empty_line (take end rest) → begun ≡ true → empty ≡ true
    → Some (length bytes - length after) ≡ front_length bytes
scan_stops bytes rest after end begun empty scan first is_after is b e =
    let line = take end rest in
    let inside : end < length rest = first.0.high in
    let left : length after ≡ length rest - (end + 1) = ap (λ (xs : List ℕ). length xs) is_after ∙ length-drop (end + 1) rest in
    let size : (length bytes - length rest) + (length line + 1) ≡ length bytes - length after
    = omega (arith, length-take-le end rest (omega arith), scan.within, left, inside) in
    sym (scan.counted
    ∙ ap (λ (ls : List (List ℕ)). longer_by (length bytes - length rest) (length_to_empty begun ls)) (line_at rest end first)
    ∙ ap (longer_by (length bytes - length rest)) (to_empty-stop begun line _ (parts_at-some 10 (drop (end + 1) rest)) b (sym is ∙ e))
    ∙ ap (λ (n : ℕ). Some n) size)

-- no line ends any more
pub scan_ends : (bytes rest : List ℕ) (begun : Bool) → Scan bytes rest begun → IsFirstByte (is_byte 10) rest None → None ≡ front_length bytes
scan_ends bytes rest begun scan none =
    let lacks : Lacks 10 rest
    = All-from_get_or (λ b. eqb b 10 ≡ false) rest 0 (λ k below. ne_true (eqb (get_or rest k 0) 10) (none k (omega arith) below)) in
    sym (scan.counted ∙ ap (λ (ls : List (List ℕ)). longer_by (length bytes - length rest) (length_to_empty begun ls)) (parts_at-last 10 rest lacks))
  where
    ne_true : (b : Bool) → (b ≡ true → ⊥) → b ≡ false
    ne_true true h = absurd (h refl)
    ne_true false h = refl
