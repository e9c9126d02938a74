-- An item that is written is read, what is read is an item, and each byte is written as an item.
use Rattle.std.proofs.Common.{◌≡◌, ◌≢◌, ℕ, ◌+◌, ◌*◌, ◌/◌, ◌%◌, ◌<◌, ◌≤◌, ◌⊎◌, inl, inr, List, [], ◌∷◌, ◌++◌, length, Option, Some, None, refl, sym, ap, ◌∙◌, arith, cond, true, false, Bool, eqb, leb, ◌&&◌}
use Rattle.std.specs.Prelude.{option_map}
use Rattle.std.proofs.lemmas.Bool.Decides.{nat_tests}
use Rattle.std.proofs.lemmas.Option.{cond_some, some_pair_parts}
use Rattle.std.specs.Char.{digit_value, digit_char, is_digit}
use Rattle.cy_bytes.specs.Quoting.{Item, Itself, Escape, HexEscape, item_text, Spells, spelling_of, escaped, hex_at, escape_at, item_at}

pub item_again : (item : Item) (b : ℕ) (rest : List ℕ) → Spells item b → item_at (item_text item ++ rest) ≡ Some (b, rest)
item_again (Itself c) b rest h = grind (arith, nat_tests)
item_again (Escape letter) b rest h = grind (arith, nat_tests)
item_again (HexEscape high low) b rest h = grind (arith, nat_tests)

-- The text begins with an item of this byte, and goes on with the rest.
pub record Begins (text : List ℕ) (b : ℕ) (rest : List ℕ) : Type 0 where
  pub item : Item
  pub stands : Spells item b
  pub parts : text ≡ item_text item ++ rest

-- which way a test went
chosen : {A : Type 0} (t : Bool) (x y z : A) → cond t x y ≡ z → ((t ≡ true) × (x ≡ z)) ⊎ ((t ≡ false) × (y ≡ z))
chosen true x y z e = inl (refl, e)
chosen false x y z e = inr (refl, e)

hex_begins : (text : List ℕ) (b : ℕ) (rest : List ℕ) → hex_at text ≡ Some (b, rest) → Begins (92 ∷ 120 ∷ text) b rest
hex_begins [] b rest h = absurd cc
hex_begins (high ∷ []) b rest h = absurd cc
hex_begins (high ∷ low ∷ text) b rest h =
    let found = cond_some (is_digit high 16 && is_digit low 16) (digit_value high * 16 + digit_value low, text) (b, rest) h in
    let parts = some_pair_parts (digit_value high * 16 + digit_value low) b text rest (ap Some found.1) in
    let of_high : digit_value high < 16 = grind (arith, nat_tests, found.0) in
    let of_low : digit_value low < 16 = grind (arith, nat_tests, found.0) in
    record { item = HexEscape high low; stands = (of_high, of_low, sym parts.0); parts = ap (λ (t : List ℕ). 92 ∷ 120 ∷ high ∷ low ∷ t) parts.1 }

letter_begins : (letter : ℕ) (found : Option ℕ) (text : List ℕ) (b : ℕ) (rest : List ℕ) → escaped letter ≡ found → option_map {U = ℕ × List ℕ} (λ (c : ℕ). (c, text)) found ≡ Some (b, rest) → Begins (92 ∷ letter ∷ text) b rest
letter_begins letter None text b rest e h = absurd cc
letter_begins letter (Some c) text b rest e h =
    let parts = some_pair_parts c b text rest h in
    record { item = Escape letter; stands = e ∙ ap Some parts.0; parts = ap (λ (t : List ℕ). 92 ∷ letter ∷ t) parts.1 }

escape_begins : (text : List ℕ) (b : ℕ) (rest : List ℕ) → escape_at text ≡ Some (b, rest) → Begins (92 ∷ text) b rest
escape_begins [] b rest h = absurd cc
escape_begins (letter ∷ text) b rest h =
    elim (chosen (eqb letter 120) (hex_at text) (option_map {U = ℕ × List ℕ} (λ (c : ℕ). (c, text)) (escaped letter)) (Some (b, rest)) h) [
      | inl w ↦ let e : letter ≡ 120 = grind (arith, nat_tests, w.0) in rw e (hex_begins text b rest w.1)
      | inr w ↦ letter_begins letter (escaped letter) text b rest refl w.1
    ]

itself_begins : (c : ℕ) (text : List ℕ) (b : ℕ) (rest : List ℕ) → c ≢ 92 → cond {A = Option (ℕ × List ℕ)} (eqb c 34) None (cond {A = Option (ℕ × List ℕ)} (leb 32 c && leb c 126) (Some (c, text)) None) ≡ Some (b, rest) → Begins (c ∷ text) b rest
itself_begins c text b rest other h =
    elim (chosen (eqb c 34) None (cond {A = Option (ℕ × List ℕ)} (leb 32 c && leb c 126) (Some (c, text)) None) (Some (b, rest)) h) [
      | inl w ↦ absurd cc
      | inr w ↦
          let found = cond_some (leb 32 c && leb c 126) (c, text) (b, rest) w.1 in
          let parts = some_pair_parts c b text rest (ap Some found.1) in
          let low : 32 ≤ c = grind (arith, nat_tests, found.0) in
          let high : c ≤ 126 = grind (arith, nat_tests, found.0) in
          let no_mark : c ≢ 34 = grind (arith, nat_tests, w.0) in
          record { item = Itself c; stands = ((low, high, other, no_mark), sym parts.0); parts = ap (λ (t : List ℕ). c ∷ t) parts.1 }
    ]

pub item_begins : (text : List ℕ) (b : ℕ) (rest : List ℕ) → item_at text ≡ Some (b, rest) → Begins text b rest
item_begins [] b rest h = absurd cc
item_begins (c ∷ text) b rest h =
    elim (chosen (eqb c 92) (escape_at text) (cond {A = Option (ℕ × List ℕ)} (eqb c 34) None (cond {A = Option (ℕ × List ℕ)} (leb 32 c && leb c 126) (Some (c, text)) None)) (Some (b, rest)) h) [
      | inl w ↦ let e : c ≡ 92 = grind (arith, nat_tests, w.0) in rw e (escape_begins text b rest w.1)
      | inr w ↦ let other : c ≢ 92 = grind (arith, nat_tests, w.0) in itself_begins c text b rest other w.1
    ]

text_longer : (item : Item) (rest : List ℕ) → length rest < length (item_text item ++ rest)
text_longer (Itself c) rest = omega arith
text_longer (Escape letter) rest = omega arith
text_longer (HexEscape high low) rest = omega arith

pub item_shorter : (text : List ℕ) (b : ℕ) (rest : List ℕ) → item_at text ≡ Some (b, rest) → length rest < length text
item_shorter text b rest h =
    let begins = item_begins text b rest h in
    rw begins.parts (text_longer begins.item rest)

digit_again : (n : ℕ) → n < 16 → digit_value (digit_char n) ≡ n
digit_again n h = grind (arith, nat_tests)

either : (t : Bool) (P : List ℕ → Type 0) (x y : List ℕ) → (t ≡ true → P x) → (t ≡ false → P y) → P (cond t x y)
either true P x y first second = first refl
either false P x y first second = second refl

abbrev IsOneItem : ℕ → List ℕ → Type 0
IsOneItem b text = (item : Item) × Spells item b × (text ≡ item_text item)

pub spelling_of_is_item : (b : ℕ) → b < 256 → IsOneItem b (spelling_of b)
spelling_of_is_item b small =
    either (eqb b 13) (IsOneItem b) _ _ (λ e. (Escape 114, grind (arith, nat_tests, e), refl))
    (λ n1. either (eqb b 10) (IsOneItem b) _ _ (λ e. (Escape 110, grind (arith, nat_tests, e), refl))
    (λ n2. either (eqb b 9) (IsOneItem b) _ _ (λ e. (Escape 116, grind (arith, nat_tests, e), refl))
    (λ n3. either (eqb b 92) (IsOneItem b) _ _ (λ e. (Escape 92, grind (arith, nat_tests, e), refl))
    (λ n4. either (eqb b 34) (IsOneItem b) _ _ (λ e. (Escape 34, grind (arith, nat_tests, e), refl))
    (λ n5. either (leb 32 b && leb b 126) (IsOneItem b) _ _
    (λ e. (Itself b, (grind (arith, nat_tests, e, n4, n5), refl), refl))
    (λ n6.
    let high = digit_again (b / 16) (omega arith) in
    let low = digit_again (b % 16) (omega arith) in
    (HexEscape (digit_char (b / 16)) (digit_char (b % 16)), (omega (arith, high), omega (arith, low), omega (arith, high, low)), refl)))))))
