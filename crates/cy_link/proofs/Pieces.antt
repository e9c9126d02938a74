-- Lemmas on the items of a link in memory, and on reading a part of one.
use Rattle.std.proofs.Common.{◌≡◌, ◌≤◌, ◌<◌, ◌+◌, ◌&&◌, ℕ, ◌⊎◌, inl, inr, Bool, true, false, nat_lt, ◌==◌, cond, List, [], ◌∷◌, ◌++◌, length, get_or, take, drop, Some, refl, ap, sym, ◌∙◌, zero, suc, arith, append_assoc, append-nil, take-append-drop}
use Rattle.std.specs.List.{list_all, slice_get, filter}
use Rattle.std.proofs.lemmas.Bool.{and_parts, cases_lt}
use Rattle.std.proofs.lemmas.Bool.Decides.{nat_tests}
use Rattle.std.proofs.lemmas.List.{drop_more, take_more, drop-append-le, take-append-le, drop-drop, drop-take, length-take-le, length-drop, take-take}
use Rattle.std.proofs.Math.Seq.{take-append_seam, drop-append_seam}
use Rattle.cy_link.specs.declared.mem_link.Cursor.{Cursor}
use Rattle.std.proofs.lemmas.Option.{slice_get_within, get_or_from_slice_get}
use Rattle.cy_link.specs.declared.items.Input.{Input}
use Rattle.cy_link.specs.declared.items.Input.TheVariants.{Piece, Pause}
use Rattle.cy_link.specs.Items.{bytes_of, piece_of, is_filled, is_in_first}

-- ---- a part of a list

-- a part of what follows p bytes, and then the rest
pub part_left : (b r : List ℕ) (p n : ℕ) → p + n ≤ length b → drop p (b ++ r) ≡ take n (drop p b) ++ drop (p + n) (b ++ r)
part_left b r p n h =
    drop-append-le p b r (omega arith)
    ∙ ap (λ l. l ++ r) (sym (take-append-drop n (drop p b)) ∙ ap (λ l. take n (drop p b) ++ l) (drop-drop n p b))
    ∙ append_assoc (take n (drop p b)) (drop (p + n) b) r
    ∙ ap (λ l. take n (drop p b) ++ l) (sym (drop-append-le (p + n) b r h))

-- the bytes before and that part
pub part_gave : (b r : List ℕ) (p n : ℕ) → p + n ≤ length b → take (p + n) (b ++ r) ≡ take p (b ++ r) ++ take n (drop p b)
part_gave b r p n h =
    take-append-le (p + n) b r h
    ∙ sym (take-append-drop p (take (p + n) b))
    ∙ ap (λ l. l ++ drop p (take (p + n) b)) (take-take p (p + n) b (omega arith))
    ∙ ap (λ l. take p b ++ l) (drop-take p n b)
    ∙ ap (λ l. l ++ take n (drop p b)) (sym (take-append-le p b r (omega arith)))

-- ---- the bytes of items

bytes-append : (xs ys : List Input) → bytes_of (xs ++ ys) ≡ bytes_of xs ++ bytes_of ys
bytes-append [] ys = refl
bytes-append (x ∷ xs) ys = ap (λ l. piece_of x ++ l) (bytes-append xs ys) ∙ sym (append_assoc (piece_of x) (bytes_of xs) (bytes_of ys))

-- the items from one on begin with its bytes
pub bytes_at : (xs : List Input) (k : ℕ) (i : Input) → slice_get xs k ≡ Some i → bytes_of (drop k xs) ≡ piece_of i ++ bytes_of (drop (k + 1) xs)
bytes_at xs k i at =
    ap bytes_of (drop_more xs k i (slice_get_within xs k i at))
    ∙ ap (λ x. piece_of x ++ bytes_of (drop (k + 1) xs)) (get_or_from_slice_get xs k i i at)

-- the items up to one end with its bytes
pub bytes_up_to : (xs : List Input) (k : ℕ) (i : Input) → slice_get xs k ≡ Some i → bytes_of (take (k + 1) xs) ≡ bytes_of (take k xs) ++ piece_of i
bytes_up_to xs k i at =
    ap bytes_of (take_more xs k i (slice_get_within xs k i at))
    ∙ bytes-append (take k xs) (get_or xs k i ∷ [])
    ∙ ap (λ x. bytes_of (take k xs) ++ (piece_of x ++ [])) (get_or_from_slice_get xs k i i at)
    ∙ ap (λ l. bytes_of (take k xs) ++ l) (append-nil (piece_of i))

-- ---- pieces without bytes

empty : (bs : List ℕ) → nat_lt 0 (length bs) ≡ false → bs ≡ []
empty [] e = refl
empty (b ∷ bs) e = absurd (grind (arith, nat_tests))

-- they add nothing
pub bytes-filter : (xs : List Input) → bytes_of (filter is_filled xs) ≡ bytes_of xs
bytes-filter [] = refl
bytes-filter (Piece b ∷ xs) = by_case (nat_lt 0 (length b.items)) refl (bytes-filter xs)
  where
    by_case : (f : Bool) → nat_lt 0 (length b.items) ≡ f → bytes_of (filter is_filled xs) ≡ bytes_of xs → bytes_of (cond f (Piece b ∷ filter is_filled xs) (filter is_filled xs)) ≡ b.items ++ bytes_of xs
    by_case true e rest = ap (λ l. b.items ++ l) rest
    by_case false e rest = rest ∙ ap (λ l. l ++ bytes_of xs) (sym (empty b.items e))
bytes-filter (Pause ∷ xs) = bytes-filter xs

pub filled-filter : (xs : List Input) → list_all is_filled (filter is_filled xs) ≡ true
filled-filter [] = refl
filled-filter (x ∷ xs) = by_case (is_filled x) refl (filled-filter xs)
  where
    by_case : (b : Bool) → is_filled x ≡ b → list_all is_filled (filter is_filled xs) ≡ true → list_all is_filled (cond b (x ∷ filter is_filled xs) (filter is_filled xs)) ≡ true
    by_case true e rest = ap (λ c. c && list_all is_filled (filter is_filled xs)) e ∙ rest
    by_case false e rest = rest

-- without them a read may begin at the first byte of any item
pub starts_anywhere : (xs : List Input) (k : ℕ) → list_all is_filled xs ≡ true → is_in_first 0 (drop k xs) ≡ true
starts_anywhere [] zero filled = refl
starts_anywhere [] (suc k) filled = refl
starts_anywhere (Piece b ∷ xs) zero filled = (and_parts _ _ filled).0
starts_anywhere (Pause ∷ xs) zero filled = refl
starts_anywhere (x ∷ xs) (suc k) filled = starts_anywhere xs k (and_parts _ _ filled).1

-- ---- a read of a part of a piece

-- a read begins within the item
pub within_item : (xs : List Input) (k p : ℕ) (i : Input) → slice_get xs k ≡ Some i → is_in_first p (drop k xs) ≡ true → p ≤ length (piece_of i)
within_item xs k p i here in_first =
    by_item i (ap (is_in_first p) (sym (drop_more xs k i (slice_get_within xs k i here) ∙ ap (λ x. x ∷ drop (k + 1) xs) (get_or_from_slice_get xs k i i here))) ∙ in_first)
  where
    by_item : (j : Input) → is_in_first p (j ∷ drop (k + 1) xs) ≡ true → p ≤ length (piece_of j)
    by_item (Piece b) h = grind (arith, nat_tests)
    by_item Pause h = grind (arith, nat_tests)

-- where the next read begins after n bytes of a piece, from its byte p on
pub record IsPast (len k p n : ℕ) (next : Cursor) : Type 0 where
  pub whole : p + n ≡ len → next ≡ record { item = k + 1; byte = 0 }
  pub part : p + n < len → next ≡ record { item = k; byte = p + n }

-- a part of a piece, that now stands at the front of a slice
pub record IsGiven (xs : List Input) (i : Input) (k p n : ℕ) (front : List ℕ) : Type 0 where
  pub here : slice_get xs k ≡ Some i
  pub within : p + n ≤ length (piece_of i)
  pub front_is : front ≡ take n (drop p (piece_of i))

front_of : (xs : List Input) (i : Input) (k p n : ℕ) (front slice : List ℕ) → IsGiven xs i k p n front → take n (front ++ slice) ≡ take n (drop p (piece_of i))
front_of xs i k p n front slice g =
    let len : length front ≡ n = ap length g.front_is ∙ omega (arith, length-take-le n (drop p (piece_of i)), length-drop p (piece_of i), g.within) in
    take-append-le n front slice (omega (arith, len)) ∙ ap (take n) g.front_is ∙ take-take n n (drop p (piece_of i)) (omega arith)

part_or_whole : (m n : ℕ) → m ≤ n → (m < n) ⊎ (m ≡ n)
part_or_whole m n h = elim (cases_lt m n) as (λ _. (m < n) ⊎ (m ≡ n)) [ inl less ↦ inl less | inr more ↦ inr (omega (arith, h, more)) ]

-- what is left loses the bytes given
pub given_left : (xs : List Input) (i : Input) (k p n : ℕ) (front slice : List ℕ) (next : Cursor) → IsGiven xs i k p n front → IsPast (length (piece_of i)) k p n next
    → drop p (bytes_of (drop k xs)) ≡ take n (front ++ slice) ++ drop next.byte (bytes_of (drop next.item xs))
given_left xs i k p n front slice next g past =
    let r = bytes_of (drop (k + 1) xs) in
    let at = bytes_at xs k i g.here in
    let left : drop p (bytes_of (drop k xs)) ≡ take n (front ++ slice) ++ drop (p + n) (piece_of i ++ r) =
    ap (drop p) at ∙ part_left (piece_of i) r p n g.within ∙ ap (λ l. l ++ drop (p + n) (piece_of i ++ r)) (sym (front_of xs i k p n front slice g)) in
    left ∙ ap (λ l. take n (front ++ slice) ++ l) (rest (part_or_whole (p + n) (length (piece_of i)) g.within))
  where
    rest : ((p + n < length (piece_of i)) ⊎ (p + n ≡ length (piece_of i))) → drop (p + n) (piece_of i ++ bytes_of (drop (k + 1) xs)) ≡ drop next.byte (bytes_of (drop next.item xs))
    rest (inl part) = ap (drop (p + n)) (sym (bytes_at xs k i g.here)) ∙ ap (λ c. drop c.byte (bytes_of (drop c.item xs))) (sym (past.part part))
    rest (inr whole) =
        ap (λ m. drop m (piece_of i ++ bytes_of (drop (k + 1) xs))) whole
        ∙ drop-append_seam (piece_of i) (bytes_of (drop (k + 1) xs))
        ∙ ap (λ c. drop c.byte (bytes_of (drop c.item xs))) (sym (past.whole whole))

-- what was given grows by them
pub given_gave : (xs : List Input) (i : Input) (k p n : ℕ) (front slice : List ℕ) (next : Cursor) → IsGiven xs i k p n front → IsPast (length (piece_of i)) k p n next
    → bytes_of (take next.item xs) ++ take next.byte (bytes_of (drop next.item xs)) ≡ (bytes_of (take k xs) ++ take p (bytes_of (drop k xs))) ++ take n (front ++ slice)
given_gave xs i k p n front slice next g past =
    let r = bytes_of (drop (k + 1) xs) in
    let before = bytes_of (take k xs) in
    let gave : take (p + n) (piece_of i ++ r) ≡ take p (bytes_of (drop k xs)) ++ take n (front ++ slice) =
    part_gave (piece_of i) r p n g.within
    ∙ ap (λ l. take p l ++ take n (drop p (piece_of i))) (sym (bytes_at xs k i g.here))
    ∙ ap (λ l. take p (bytes_of (drop k xs)) ++ l) (sym (front_of xs i k p n front slice g)) in
    now (part_or_whole (p + n) (length (piece_of i)) g.within)
    ∙ ap (λ l. before ++ l) gave
    ∙ sym (append_assoc before (take p (bytes_of (drop k xs))) (take n (front ++ slice)))
  where
    now : ((p + n < length (piece_of i)) ⊎ (p + n ≡ length (piece_of i)))
        → bytes_of (take next.item xs) ++ take next.byte (bytes_of (drop next.item xs)) ≡ bytes_of (take k xs) ++ take (p + n) (piece_of i ++ bytes_of (drop (k + 1) xs))
    now (inl part) =
        ap (λ c. bytes_of (take c.item xs) ++ take c.byte (bytes_of (drop c.item xs))) (past.part part)
        ∙ ap (λ l. bytes_of (take k xs) ++ take (p + n) l) (bytes_at xs k i g.here)
    now (inr whole) =
        ap (λ c. bytes_of (take c.item xs) ++ take c.byte (bytes_of (drop c.item xs))) (past.whole whole)
        ∙ append-nil (bytes_of (take (k + 1) xs))
        ∙ bytes_up_to xs k i g.here
        ∙ ap (λ l. bytes_of (take k xs) ++ l) (sym (take-append_seam (piece_of i) (bytes_of (drop (k + 1) xs))))
        ∙ ap (λ m. bytes_of (take k xs) ++ take m (piece_of i ++ bytes_of (drop (k + 1) xs))) (sym whole)

-- a read may begin there
pub given_begins : (xs : List Input) (i : Input) (k p n : ℕ) (front : List ℕ) (next : Cursor) → list_all is_filled xs ≡ true → IsGiven xs i k p n front → IsPast (length (piece_of i)) k p n next
    → is_in_first next.byte (drop next.item xs) ≡ true
given_begins xs i k p n front next filled g past = begins (part_or_whole (p + n) (length (piece_of i)) g.within)
  where
    within : (j : Input) → p + n < length (piece_of j) → is_in_first (p + n) (j ∷ drop (k + 1) xs) ≡ true
    within (Piece b) h = grind (arith, nat_tests)
    within Pause h = absurd (omega arith)

    begins : ((p + n < length (piece_of i)) ⊎ (p + n ≡ length (piece_of i))) → is_in_first next.byte (drop next.item xs) ≡ true
    begins (inl part) =
        ap (λ c. is_in_first c.byte (drop c.item xs)) (past.part part)
        ∙ ap (is_in_first (p + n)) (drop_more xs k i (slice_get_within xs k i g.here))
        ∙ ap (λ x. is_in_first (p + n) (x ∷ drop (k + 1) xs)) (get_or_from_slice_get xs k i i g.here)
        ∙ within i part
    begins (inr whole) = ap (λ c. is_in_first c.byte (drop c.item xs)) (past.whole whole) ∙ starts_anywhere xs (k + 1) filled

-- ---- a pause

-- past a pause what was given is the same
pub paused_gave : (xs : List Input) (k p : ℕ) → slice_get xs k ≡ Some Pause → is_in_first p (drop k xs) ≡ true
    → bytes_of (take (k + 1) xs) ++ [] ≡ bytes_of (take k xs) ++ take p (bytes_of (drop k xs))
paused_gave xs k p here in_first =
    let first : p ≡ 0 = at_zero (ap (is_in_first p) (sym (drop_more xs k Pause (slice_get_within xs k Pause here) ∙ ap (λ x. x ∷ drop (k + 1) xs) (get_or_from_slice_get xs k Pause Pause here))) ∙ in_first) in
    append-nil (bytes_of (take (k + 1) xs))
    ∙ bytes_up_to xs k Pause here
    ∙ ap (λ m. bytes_of (take k xs) ++ take m (bytes_of (drop k xs))) (sym first)
  where
    at_zero : (p == 0) ≡ true → p ≡ 0
    at_zero h = grind (arith, nat_tests)
