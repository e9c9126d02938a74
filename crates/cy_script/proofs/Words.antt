-- Words, and the fields behind them.
use Rattle.std.proofs.Common.{◌≡◌, ℕ, suc, ◌+◌, ◌≤◌, Bool, true, false, cond, ◌&&◌, ◌||◌, not, eqb, ltb, List, [], ◌∷◌, ◌++◌, length, take, drop, Option, Some, None, refl, sym, ap, subst, ◌∙◌, arith}
use Rattle.std.specs.Char.{is_digit}
use Rattle.std.specs.List.{position, position_or_len, list_all}
use Rattle.std.proofs.lemmas.Bool.{ltb-false}
use Rattle.std.proofs.lemmas.Bool.Decides.{nat_tests}
use Rattle.std.proofs.lemmas.Option.{cond_some}
use Rattle.cy_bytes.specs.Numbers.{decimal_of, has_leading_zero}
use Rattle.cy_bytes.specs.Tokens.{is_empty}
use Rattle.cy_script.specs.TextLines.{lacks}
use Rattle.cy_script.specs.Reading.{behind_word, word_of}

-- ---- where the first space stands

abbrev pub is_space : ℕ → Bool
is_space b = eqb b 32

word_at_space : (text : List ℕ) → word_of text ≡ take (position_or_len is_space text) text
word_at_space [] = refl
word_at_space (b ∷ text) =
    elim (eqb b 32) as (λ t. cond t [] (b ∷ word_of text) ≡ take (cond (not t) (1 + position_or_len is_space text) 0) (b ∷ text)) [
      | true ↦ refl
      | false ↦
          let next : 1 + position_or_len is_space text ≡ suc (position_or_len is_space text) = omega arith in
          rw next (ap (λ (w : List ℕ). b ∷ w) (word_at_space text))
    ]

rest_at_space : (text : List ℕ) → behind_word text ≡ drop (position_or_len is_space text) text
rest_at_space [] = refl
rest_at_space (b ∷ text) =
    elim (eqb b 32) as (λ t. cond t (b ∷ text) (behind_word text) ≡ drop (cond (not t) (1 + position_or_len is_space text) 0) (b ∷ text)) [
      | true ↦ refl
      | false ↦
          let next : 1 + position_or_len is_space text ≡ suc (position_or_len is_space text) = omega arith in
          rw next (rest_at_space text)
    ]

-- The first word ends at the first space.
pub word_ends : (text : List ℕ) (end : ℕ) → Some end ≡ position is_space text → (word_of text ≡ take end text) × (behind_word text ≡ drop end text)
word_ends text end h =
    let found = cond_some (ltb (position_or_len is_space text) (length text)) (position_or_len is_space text) end (sym h) in
    (word_at_space text ∙ ap (λ (n : ℕ). take n text) found.1, rest_at_space text ∙ ap (λ (n : ℕ). drop n text) found.1)

no_space : (text : List ℕ) → length text ≤ position_or_len is_space text → (word_of text ≡ text) × (behind_word text ≡ [])
no_space [] h = (refl, refl)
no_space (b ∷ text) h =
    elim (eqb b 32) as (λ t. suc (length text) ≤ cond (not t) (1 + position_or_len is_space text) 0 → (cond t [] (b ∷ word_of text) ≡ b ∷ text) × (cond t (b ∷ text) (behind_word text) ≡ [])) [
      | true ↦ λ k. absurd (omega arith)
      | false ↦ λ k.
          let rest = no_space text (omega arith) in
          (ap (λ (w : List ℕ). b ∷ w) rest.0, rest.1)
    ] h

-- Without a space the text is one word.
pub one_word : (text : List ℕ) → None ≡ position is_space text → (word_of text ≡ text) × (behind_word text ≡ [])
one_word text h =
    elim (ltb (position_or_len is_space text) (length text)) as (λ t. ltb (position_or_len is_space text) (length text) ≡ t → None ≡ cond t (Some (position_or_len is_space text)) None → (word_of text ≡ text) × (behind_word text ≡ [])) [
      | true ↦ λ e k. absurd cc
      | false ↦ λ e k. no_space text (ltb-false _ _ e)
    ] refl h

-- ---- a text is its first word and what follows it

pub word_and_rest : (text : List ℕ) → text ≡ word_of text ++ behind_word text
word_and_rest [] = refl
word_and_rest (b ∷ text) =
    elim (eqb b 32) as (λ t. b ∷ text ≡ cond t [] (b ∷ word_of text) ++ cond t (b ∷ text) (behind_word text)) [
      | true ↦ refl
      | false ↦ ap (λ (t : List ℕ). b ∷ t) (word_and_rest text)
    ]

pub and_parts : (s t : Bool) → (s && t) ≡ true → (s ≡ true) × (t ≡ true)
and_parts true t h = (refl, h)
and_parts false t h = absurd cc

pub not_true : (t : Bool) → not t ≡ true → t ≡ false
not_true true h = absurd cc
not_true false h = refl

-- A word that lacks spaces is cut off before a space, and stands alone.
pub word_then : (word rest : List ℕ) → lacks 32 word ≡ true → (word_of (word ++ 32 ∷ rest) ≡ word) × (behind_word (word ++ 32 ∷ rest) ≡ 32 ∷ rest)
word_then [] rest h = (refl, refl)
word_then (b ∷ word) rest h =
    let parts = and_parts (not (eqb b 32)) (lacks 32 word) h in
    let other : eqb b 32 ≡ false = not_true (eqb b 32) parts.0 in
    let more = word_then word rest parts.1 in
    (rw other (ap (λ (w : List ℕ). b ∷ w) more.0), rw other more.1)

pub word_alone : (word : List ℕ) → lacks 32 word ≡ true → (word_of word ≡ word) × (behind_word word ≡ [])
word_alone [] h = (refl, refl)
word_alone (b ∷ word) h =
    let parts = and_parts (not (eqb b 32)) (lacks 32 word) h in
    let other : eqb b 32 ≡ false = not_true (eqb b 32) parts.0 in
    let more = word_alone word parts.1 in
    (rw other (ap (λ (w : List ℕ). b ∷ w) more.0), rw other more.1)

pub first_word_lacks : (text : List ℕ) → lacks 32 (word_of text) ≡ true
first_word_lacks [] = refl
first_word_lacks (b ∷ text) =
    elim (eqb b 32) as (λ t. eqb b 32 ≡ t → lacks 32 (cond t [] (b ∷ word_of text)) ≡ true) [
      | true ↦ λ e. refl
      | false ↦ λ e. rw e (first_word_lacks text)
    ] refl

-- ---- numbers are words

digit_is_no_space : (b : ℕ) → is_digit b 10 ≡ true → not (eqb b 32) ≡ true
digit_is_no_space b h =
    elim (eqb b 32) as (λ t. eqb b 32 ≡ t → not t ≡ true) [
      | true ↦ λ e. let is : b ≡ 32 = grind (arith, nat_tests, e) in let no : is_digit 32 10 ≡ true = subst (λ (n : ℕ). is_digit n 10 ≡ true) is h in absurd cc
      | false ↦ λ e. refl
    ] refl

digits_lack_spaces : (text : List ℕ) → list_all (λ b. is_digit b 10) text ≡ true → lacks 32 text ≡ true
digits_lack_spaces [] h = refl
digits_lack_spaces (b ∷ text) h =
    let parts = and_parts (is_digit b 10) (list_all (λ c. is_digit c 10) text) h in
    rw (digit_is_no_space b parts.0) (digits_lack_spaces text parts.1)

pub some_else : {A : Type 0} (t : Bool) (o : Option A) (x : A) → cond t None o ≡ Some x → o ≡ Some x
some_else true o x h = absurd cc
some_else false o x h = h

pub some_then : {A : Type 0} (t : Bool) (o : Option A) (x : A) → cond t o None ≡ Some x → (t ≡ true) × (o ≡ Some x)
some_then true o x h = (refl, h)
some_then false o x h = absurd cc

pub number_lacks : (word : List ℕ) (n : ℕ) → decimal_of word ≡ Some n → lacks 32 word ≡ true
unfolding decimal_of
number_lacks word n h =
    let number = some_else (is_empty word || has_leading_zero word) _ n h in
    digits_lack_spaces word (some_then (list_all (λ b. is_digit b 10) word) _ n number).0
