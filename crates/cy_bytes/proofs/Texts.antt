-- A text is read as the bytes that it spells, or up to its first fault.
use Rattle.std.proofs.Common.{◌≡◌, ◌≢◌, ℕ, zero, suc, ◌+◌, ◌-◌, ◌<◌, ◌≤◌, List, [], ◌∷◌, ◌++◌, length, Some, None, Result, Ok, Err, refl, sym, ap, subst, ◌∙◌, append_assoc, arith}
use Rattle.std.proofs.lemmas.List.{append-nil, length-append}
use Rattle.cy_bytes.specs.Quoting.{item_text, IsSpelling, BeginsNoItem, HasFirstFault, item_at, with_byte, read_next, read_items, placed, unquoted}
use Rattle.cy_bytes.proofs.Items.{Begins, item_again, item_begins, item_shorter}

-- the whole text's items
abbrev pub read_all : List ℕ → Result (List ℕ) (List ℕ)
read_all text = read_items (length text) text

-- bytes that were read before
abbrev pub with_front : List ℕ → Result (List ℕ) (List ℕ) → Result (List ℕ) (List ℕ)
with_front front (Ok bytes) = Ok (front ++ bytes)
with_front front (Err rest) = Err rest

-- Any number of items that is enough gives the same.
enough : (m n : ℕ) (text : List ℕ) → length text ≤ m → length text ≤ n → read_items m text ≡ read_items n text
enough m n [] h k = refl
enough zero n (b ∷ text) h k = absurd (omega arith)
enough (suc m) zero (b ∷ text) h k = absurd (omega arith)
enough (suc m) (suc n) (b ∷ text) h k =
    elim (item_at (b ∷ text)) as (λ o. item_at (b ∷ text) ≡ o → read_next (read_items m) (b ∷ text) o ≡ read_next (read_items n) (b ∷ text) o) [
      | None ↦ λ e. refl
      | Some x ↦ λ e.
          let shorter : length x.1 < length (b ∷ text) = item_shorter (b ∷ text) x.0 x.1 e in
          ap (with_byte x.0) (enough m n x.1 (omega arith) (omega arith))
    ] refl

pub read_one : (text : List ℕ) (b : ℕ) (rest : List ℕ) → item_at text ≡ Some (b, rest) → read_all text ≡ with_byte b (read_all rest)
read_one [] b rest h = absurd cc
read_one (c ∷ text) b rest h =
    let shorter : length rest < length (c ∷ text) = item_shorter (c ∷ text) b rest h in
    ap (read_next (read_items (length text)) (c ∷ text)) h ∙ ap (with_byte b) (enough (length text) (length rest) rest (omega arith) (omega arith))

pub read_none : (text : List ℕ) → text ≢ [] → item_at text ≡ None → read_all text ≡ Err text
read_none [] some h = absurd (some refl)
read_none (c ∷ text) some h = ap (read_next (read_items (length text)) (c ∷ text)) h

with_front-nil : (read : Result (List ℕ) (List ℕ)) → with_front [] read ≡ read
with_front-nil (Ok bytes) = refl
with_front-nil (Err rest) = refl

with_byte-front : (b : ℕ) (front : List ℕ) (read : Result (List ℕ) (List ℕ)) → with_byte b (with_front front read) ≡ with_front (b ∷ front) read
with_byte-front b front (Ok bytes) = refl
with_byte-front b front (Err rest) = refl

pub with_front-byte : (front : List ℕ) (b : ℕ) (read : Result (List ℕ) (List ℕ)) → with_front front (with_byte b read) ≡ with_front (front ++ b ∷ []) read
with_front-byte front b (Ok bytes) = ap Ok (sym (append_assoc front (b ∷ []) bytes))
with_front-byte front b (Err rest) = refl

-- A front that spells bytes is read as these bytes, whatever follows.
read_spelling : (bytes front rest : List ℕ) → IsSpelling front bytes → read_all (front ++ rest) ≡ with_front bytes (read_all rest)
read_spelling [] front rest h = ap (λ (t : List ℕ). read_all (t ++ rest)) h ∙ sym (with_front-nil (read_all rest))
read_spelling (b ∷ bytes) front rest h =
    let item = h.0 in
    let tail = h.1 in
    let parts : front ++ rest ≡ item_text item ++ (tail ++ rest) = ap (λ (t : List ℕ). t ++ rest) h.3 ∙ append_assoc (item_text item) tail rest in
    let first : item_at (front ++ rest) ≡ Some (b, tail ++ rest) = ap item_at parts ∙ item_again item b (tail ++ rest) h.2 in
    read_one (front ++ rest) b (tail ++ rest) first ∙ ap (with_byte b) (read_spelling bytes tail rest h.4) ∙ with_byte-front b bytes (read_all rest)

-- What is read of a text: it spells the bytes, or whole items stand in front of its first fault.
Found : List ℕ → Result (List ℕ) (List ℕ) → Type 0
Found text (Ok bytes) = IsSpelling text bytes
Found text (Err rest) = (front bytes : List ℕ) × (text ≡ front ++ rest) × IsSpelling front bytes × BeginsNoItem rest

found_one : (text : List ℕ) (b : ℕ) (rest : List ℕ) → Begins text b rest → (read : Result (List ℕ) (List ℕ)) → Found rest read → Found text (with_byte b read)
unfolding Found
found_one text b rest begins (Ok bytes) h = (begins.item, rest, begins.stands, begins.parts, h)
found_one text b rest begins (Err left) h =
    let parts : text ≡ (item_text begins.item ++ h.0) ++ left = begins.parts ∙ ap (λ (t : List ℕ). item_text begins.item ++ t) h.2 ∙ sym (append_assoc (item_text begins.item) h.0 left) in
    (item_text begins.item ++ h.0, b ∷ h.1, parts, (begins.item, h.0, begins.stands, refl, h.3), h.4)

begins_none : (text : List ℕ) → text ≢ [] → item_at text ≡ None → BeginsNoItem text
begins_none text some h = record {
  goes_on = some;
  no_item = λ item b rest stands parts. let again = sym h ∙ ap item_at parts ∙ item_again item b rest stands in absurd cc;
}

found : (most : ℕ) (text : List ℕ) → length text ≤ most → Found text (read_items most text)
unfolding Found
found most [] h = refl
found zero (b ∷ text) h = absurd (omega arith)
found (suc most) (b ∷ text) h =
    elim (item_at (b ∷ text)) as (λ o. item_at (b ∷ text) ≡ o → Found (b ∷ text) (read_next (read_items most) (b ∷ text) o)) [
      | None ↦ λ e. ([], [], refl, refl, begins_none (b ∷ text) (λ n. absurd cc) e)
      | Some x ↦ λ e.
          let shorter : length x.1 < length (b ∷ text) = item_shorter (b ∷ text) x.0 x.1 e in
          found_one (b ∷ text) x.0 x.1 (item_begins (b ∷ text) x.0 x.1 e) (read_items most x.1) (found most x.1 (omega arith))
    ] refl

-- A text that spells bytes is read as these bytes.
pub spelling_is_read : (text bytes : List ℕ) → IsSpelling text bytes → unquoted text ≡ Ok bytes
unfolding unquoted
spelling_is_read text bytes h =
    let read : read_all text ≡ Ok bytes = ap read_all (sym (append-nil text)) ∙ read_spelling bytes text [] h ∙ ap Ok (append-nil bytes) in
    ap (placed text) read

-- What is read spells the text.
pub read_is_spelling : (text bytes : List ℕ) → unquoted text ≡ Ok bytes → IsSpelling text bytes
unfolding unquoted Found
read_is_spelling text bytes h =
    elim (read_all text) as (λ read. Found text read → placed text read ≡ Ok bytes → IsSpelling text bytes) [
      | Ok found_bytes ↦ λ f e. let same : found_bytes ≡ bytes = cc in subst (IsSpelling text) same f
      | Err rest ↦ λ f e. absurd cc
    ] (found (length text) text (omega arith)) h

-- The first fault is the place that is named.
pub fault_is_read : (text : List ℕ) (place : ℕ) → HasFirstFault text place → unquoted text ≡ Err place
unfolding unquoted
fault_is_read text place h =
    let no_item : item_at h.rest ≡ None =
    elim (item_at h.rest) as (λ o. item_at h.rest ≡ o → o ≡ None) [
      | None ↦ λ e. refl
      | Some x ↦ λ e. let begins = item_begins h.rest x.0 x.1 e in absurd (h.fault.no_item begins.item x.0 x.1 begins.stands begins.parts)
    ] refl in
    let read : read_all text ≡ Err h.rest = ap read_all h.parts ∙ read_spelling h.bytes h.front h.rest h.whole ∙ ap (with_front h.bytes) (read_none h.rest h.fault.goes_on no_item) in
    let long : length text ≡ length h.front + length h.rest = ap length h.parts ∙ length-append h.front h.rest in
    let place_is : length text - length h.rest ≡ place = omega (arith, long, h.at_place) in
    ap (placed text) read ∙ ap Err place_is

-- The place that is named is the first fault.
pub read_is_fault : (text : List ℕ) (place : ℕ) → unquoted text ≡ Err place → HasFirstFault text place
unfolding unquoted Found
read_is_fault text place h =
    elim (read_all text) as (λ read. Found text read → placed text read ≡ Err place → HasFirstFault text place) [
      | Ok found_bytes ↦ λ f e. absurd cc
      | Err rest ↦ λ f e.
          let same : length text - length rest ≡ place = cc in
          let long : length text ≡ length f.0 + length rest = ap length f.2 ∙ length-append f.0 rest in
          record { front = f.0; bytes = f.1; rest = rest; parts = f.2; at_place = omega (arith, same, long); whole = f.3; fault = f.4 }
    ] (found (length text) text (omega arith)) h
