-- The lines of a text, from its front and from its parts.
use Rattle.std.proofs.Common.{◌≡◌, ◌≢◌, ℕ, suc, ◌+◌, ◌<◌, ◌≤◌, ◌⊎◌, inl, inr, Bool, true, false, cond, not, eqb, ltb, List, [], ◌∷◌, ◌++◌, length, take, drop, Some, None, refl, sym, ap, subst, ◌∙◌, append_assoc, arith}
use Rattle.std.specs.List.{position, position_or_len}
use Rattle.std.proofs.lemmas.Bool.{ltb-true, ltb-false}
use Rattle.std.proofs.lemmas.Bool.Decides.{nat_tests}
use Rattle.std.proofs.lemmas.Option.{cond_some}
use Rattle.std.specs.List.{list_all}
use Rattle.cy_script.specs.TextLines.{ended, lacks, HasLines}
use Rattle.cy_script.proofs.Words.{and_parts, not_true}
use Rattle.cy_script.specs.Reading.{in_first, before, lines_of}

-- the byte ends a line
abbrev pub is_feed : ℕ → Bool
is_feed b = eqb b 10

line_at : (text : List ℕ) → position_or_len is_feed text < length text → lines_of text ≡ take (position_or_len is_feed text) text ∷ lines_of (drop (suc (position_or_len is_feed text)) text)
line_at [] h = absurd (omega arith)
line_at (b ∷ text) h =
    elim (eqb b 10) as (λ t. cond (not t) (1 + position_or_len is_feed text) 0 < suc (length text) → cond t ([] ∷ lines_of text) (in_first b (lines_of text)) ≡ take (cond (not t) (1 + position_or_len is_feed text) 0) (b ∷ text) ∷ lines_of (drop (suc (cond (not t) (1 + position_or_len is_feed text) 0)) (b ∷ text))) [
      | true ↦ λ k. refl
      | false ↦ λ k.
          let next : 1 + position_or_len is_feed text ≡ suc (position_or_len is_feed text) = omega arith in
          rw next (ap (in_first b) (line_at text (omega arith)))
    ] h

no_line_end : (b : ℕ) (text : List ℕ) → length (b ∷ text) ≤ position_or_len is_feed (b ∷ text) → lines_of (b ∷ text) ≡ (b ∷ text) ∷ []
no_line_end b [] h =
    elim (eqb b 10) as (λ t. 1 ≤ cond (not t) 1 0 → cond t ([] ∷ []) ((b ∷ []) ∷ []) ≡ (b ∷ []) ∷ []) [
      | true ↦ λ k. absurd (omega arith)
      | false ↦ λ k. refl
    ] h
no_line_end b (c ∷ text) h =
    elim (eqb b 10) as (λ t. suc (length (c ∷ text)) ≤ cond (not t) (1 + position_or_len is_feed (c ∷ text)) 0 → cond t ([] ∷ lines_of (c ∷ text)) (in_first b (lines_of (c ∷ text))) ≡ (b ∷ c ∷ text) ∷ []) [
      | true ↦ λ k. absurd (omega arith)
      | false ↦ λ k. ap (in_first b) (no_line_end c text (omega arith))
    ] h

-- The first line ends at the first line feed.
pub line_ends : (text : List ℕ) (end : ℕ) → Some end ≡ position is_feed text → lines_of text ≡ take end text ∷ lines_of (drop (suc end) text)
line_ends text end h =
    let found = cond_some (ltb (position_or_len is_feed text) (length text)) (position_or_len is_feed text) end (sym h) in
    subst (λ (n : ℕ). lines_of text ≡ take n text ∷ lines_of (drop (suc n) text)) found.1 (line_at text (ltb-true _ _ found.0))

-- Without a line feed the text is one line.
pub one_line : (text : List ℕ) → text ≢ [] → None ≡ position is_feed text → lines_of text ≡ text ∷ []
one_line [] some h = absurd (some refl)
one_line (b ∷ text) some h =
    elim (ltb (position_or_len is_feed (b ∷ text)) (length (b ∷ text))) as (λ t. ltb (position_or_len is_feed (b ∷ text)) (length (b ∷ text)) ≡ t → None ≡ cond t (Some (position_or_len is_feed (b ∷ text))) None → lines_of (b ∷ text) ≡ (b ∷ text) ∷ []) [
      | true ↦ λ e k. absurd cc
      | false ↦ λ e k. no_line_end b text (ltb-false _ _ e)
    ] refl h

pub is_something : (text : List ℕ) → false ≡ eqb (length text) 0 → text ≢ []
is_something [] h e = absurd cc
is_something (b ∷ text) h e = absurd cc

-- ---- a text has the lines that are read of it

feed_first : (text : List ℕ) (lines : List (List ℕ)) → HasLines text lines → HasLines (10 ∷ text) ([] ∷ lines)
feed_first text lines h = record {
  whole = h.whole;
  parts = elim h.parts as (λ p. (10 ∷ text ≡ ended ([] ∷ lines)) ⊎ ((10 ∷ text) ++ 10 ∷ [] ≡ ended ([] ∷ lines))) [
    | inl e ↦ inl (ap (λ (t : List ℕ). 10 ∷ t) e)
    | inr e ↦ inr (ap (λ (t : List ℕ). 10 ∷ t) e)
  ];
}

byte_first_whole : (b : ℕ) (lines : List (List ℕ)) → eqb b 10 ≡ false → list_all (lacks 10) lines ≡ true → list_all (lacks 10) (in_first b lines) ≡ true
byte_first_whole b [] other h = rw other refl
byte_first_whole b (line ∷ lines) other h = rw other h

byte_first_parts : (b : ℕ) (text : List ℕ) (lines : List (List ℕ)) → (text ≡ ended lines) ⊎ (text ++ 10 ∷ [] ≡ ended lines)
    → (b ∷ text ≡ ended (in_first b lines)) ⊎ ((b ∷ text) ++ 10 ∷ [] ≡ ended (in_first b lines))
byte_first_parts b text [] (inl e) = inr (ap (λ (t : List ℕ). b ∷ t ++ 10 ∷ []) e)
byte_first_parts b [] [] (inr e) = absurd cc
byte_first_parts b (c ∷ text) [] (inr e) = absurd cc
byte_first_parts b text (line ∷ lines) (inl e) = inl (ap (λ (t : List ℕ). b ∷ t) e)
byte_first_parts b text (line ∷ lines) (inr e) = inr (ap (λ (t : List ℕ). b ∷ t) e)

pub has_its_lines : (text : List ℕ) → HasLines text (lines_of text)
has_its_lines [] = record { whole = refl; parts = inl refl }
has_its_lines (b ∷ text) =
    elim (eqb b 10) as (λ t. eqb b 10 ≡ t → HasLines (b ∷ text) (cond t ([] ∷ lines_of text) (in_first b (lines_of text)))) [
      | true ↦ λ e. let feed : b ≡ 10 = grind (arith, nat_tests, e) in rw feed (feed_first text (lines_of text) (has_its_lines text))
      | false ↦ λ e.
          let rest = has_its_lines text in
          record { whole = byte_first_whole b (lines_of text) e rest.whole; parts = byte_first_parts b text (lines_of text) rest.parts }
    ] refl

-- ---- lines that are written are read

ended_line : (line rest : List ℕ) → lacks 10 line ≡ true → lines_of (line ++ 10 ∷ rest) ≡ line ∷ lines_of rest
ended_line [] rest h = refl
ended_line (b ∷ line) rest h =
    let parts = and_parts (not (eqb b 10)) (lacks 10 line) h in
    let other : eqb b 10 ≡ false = not_true (eqb b 10) parts.0 in
    ap (before b) (ended_line line rest parts.1) ∙ rw other refl

ended_lines : (lines : List (List ℕ)) → list_all (lacks 10) lines ≡ true → lines_of (ended lines) ≡ lines
ended_lines [] h = refl
ended_lines (line ∷ lines) h =
    let parts = and_parts (lacks 10 line) (list_all (lacks 10) lines) h in
    ap lines_of (append_assoc line (10 ∷ []) (ended lines)) ∙ ended_line line (ended lines) parts.0 ∙ ap (λ (ls : List (List ℕ)). line ∷ ls) (ended_lines lines parts.1)

-- lines without or with an empty one behind them
abbrev pub AreSameButEmpty : List (List ℕ) → List (List ℕ) → Type 0
AreSameButEmpty lines more = (more ≡ lines) ⊎ (more ≡ lines ++ [] ∷ [])

empty_behind : (b : ℕ) (lines : List (List ℕ)) → AreSameButEmpty (before b lines) (before b (lines ++ [] ∷ []))
empty_behind b [] = elim (eqb b 10) as (λ t. AreSameButEmpty (cond t ([] ∷ []) (in_first b [])) (cond t ([] ∷ [] ∷ []) (in_first b ([] ∷ [])))) [
  | true ↦ inr refl
  | false ↦ inl refl
]
empty_behind b (line ∷ lines) = elim (eqb b 10) as (λ t. AreSameButEmpty (cond t ([] ∷ line ∷ lines) (in_first b (line ∷ lines))) (cond t ([] ∷ (line ∷ lines) ++ [] ∷ []) (in_first b ((line ∷ lines) ++ [] ∷ [])))) [
  | true ↦ inr refl
  | false ↦ inr refl
]

-- A further line feed ends the last line, or an empty one behind it.
lines_of-feed : (text : List ℕ) → AreSameButEmpty (lines_of text) (lines_of (text ++ 10 ∷ []))
lines_of-feed [] = inr refl
lines_of-feed (b ∷ text) = elim (lines_of-feed text) as (λ _. AreSameButEmpty (before b (lines_of text)) (before b (lines_of (text ++ 10 ∷ [])))) [
  | inl e ↦ inl (ap (before b) e)
  | inr e ↦ subst (λ (ls : List (List ℕ)). AreSameButEmpty (before b (lines_of text)) (before b ls)) (sym e) (empty_behind b (lines_of text))
]

-- The lines of a text are those that are read, but for an empty one behind them.
pub lines_are_read : (text : List ℕ) (lines : List (List ℕ)) → HasLines text lines → AreSameButEmpty (lines_of text) lines
lines_are_read text lines h = elim h.parts as (λ _. AreSameButEmpty (lines_of text) lines) [
  | inl e ↦ inl (sym (ap lines_of e ∙ ended_lines lines h.whole))
  | inr e ↦ subst (λ (ls : List (List ℕ)). AreSameButEmpty (lines_of text) ls) (ap lines_of e ∙ ended_lines lines h.whole) (lines_of-feed text)
]
