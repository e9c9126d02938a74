-- A number below 65,536 in hexadecimal: one to four digits, the greatest first.
use Rattle.std.proofs.Common.{◌≡◌, ℕ, suc, ◌/◌, ◌%◌, ◌<◌, ◌≤◌, Bool, true, false, List, [], ◌∷◌, refl, ap, ◌∙◌, arith}
use Rattle.std.specs.Prelude.{◌==◌, if◌then◌else◌}
use Rattle.std.proofs.lemmas.Bool.Decides.{nat_tests}
use Rattle.std.specs.Fmt.{digit_glyph, digits, digits_onto}
use Rattle.cy_event.specs.AnswerModes.{hex_text}

-- the digit of a number below 16
abbrev pub glyph : ℕ → ℕ
glyph n = digit_glyph false n

all_digits : (n : ℕ) → hex_text n ≡ digits_onto 64 16 false n []
unfolding digits
all_digits n = refl

-- the last digit, and those before it if there are any
last : (n k : ℕ) (text : List ℕ) (is_first : Bool) → n / 16 == 0 ≡ is_first
    → digits_onto (suc k) 16 false n text ≡ (if is_first then glyph (n % 16) ∷ text else digits_onto k 16 false (n / 16) (glyph (n % 16) ∷ text))
last n k text is_first is = ap (λ (t : Bool). if t then glyph (n % 16) ∷ text else digits_onto k 16 false (n / 16) (glyph (n % 16) ∷ text)) is

step : (n k : ℕ) (text : List ℕ) → 16 ≤ n → digits_onto (suc k) 16 false n text ≡ digits_onto k 16 false (n / 16) (glyph (n % 16) ∷ text)
step n k text large = last n k text false (grind (arith, nat_tests))

-- the first digit
first : (n k : ℕ) (text : List ℕ) → n < 16 → digits_onto (suc k) 16 false n text ≡ glyph (n % 16) ∷ text
first n k text small = last n k text true (grind (arith, nat_tests))

pub one_digit_text : (n : ℕ) → n < 16 → hex_text n ≡ glyph (n % 16) ∷ []
one_digit_text n small = all_digits n ∙ first n 63 [] small

pub two_digits_text : (n : ℕ) → 16 ≤ n → n < 256 → hex_text n ≡ glyph (n / 16 % 16) ∷ glyph (n % 16) ∷ []
two_digits_text n large small =
    all_digits n ∙ step n 63 [] large ∙ first (n / 16) 62 (glyph (n % 16) ∷ []) (omega arith)

pub three_digits_text : (n : ℕ) → 256 ≤ n → n < 4096 → hex_text n ≡ glyph (n / 256 % 16) ∷ glyph (n / 16 % 16) ∷ glyph (n % 16) ∷ []
three_digits_text n large small =
    let back = glyph (n / 16 % 16) ∷ glyph (n % 16) ∷ [] in
    let by_both : n / 16 / 16 ≡ n / 256 = omega arith in
    all_digits n
    ∙ step n 63 [] (omega arith)
    ∙ step (n / 16) 62 (glyph (n % 16) ∷ []) (omega arith)
    ∙ first (n / 16 / 16) 61 back (omega arith)
    ∙ ap (λ m. glyph (m % 16) ∷ back) by_both

pub four_digits_text : (n : ℕ) → 4096 ≤ n → n < 65536
    → hex_text n ≡ glyph (n / 4096) ∷ glyph (n / 256 % 16) ∷ glyph (n / 16 % 16) ∷ glyph (n % 16) ∷ []
four_digits_text n large small =
    let back = glyph (n / 16 % 16) ∷ glyph (n % 16) ∷ [] in
    let by_both : n / 16 / 16 ≡ n / 256 = omega arith in
    let by_all : n / 16 / 16 / 16 % 16 ≡ n / 4096 = omega arith in
    all_digits n
    ∙ step n 63 [] (omega arith)
    ∙ step (n / 16) 62 (glyph (n % 16) ∷ []) (omega arith)
    ∙ step (n / 16 / 16) 61 back (omega arith)
    ∙ first (n / 16 / 16 / 16) 60 (glyph (n / 16 / 16 % 16) ∷ back) (omega arith)
    ∙ (λ i. glyph (by_all i) ∷ glyph (by_both i % 16) ∷ back)
