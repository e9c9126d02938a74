-- The fields of a line, as they are read and as they are written.
use Rattle.std.proofs.Common.{◌≡◌, ℕ, ◌⊎◌, inl, inr, Bool, true, false, cond, eqb, List, [], ◌∷◌, ◌++◌, Option, Some, None, Result, Ok, Err, refl, ap, subst, ◌∙◌, arith}
use Rattle.std.specs.Prelude.{codes, option_map}
use Rattle.std.specs.Option.{option_and_then}
use Rattle.std.specs.Result.{result_ok}
use Rattle.std.proofs.lemmas.Bool.Decides.{nat_tests}
use Rattle.cy_bytes.specs.Numbers.{decimal_of}
use Rattle.cy_bytes.specs.Quoting.{unquoted}
use Rattle.cy_bytes.proofs.Texts.{spelling_is_read, read_is_spelling}
use Rattle.cy_script.specs.TextLines.{lacks, IsNumber, IsQuoted}
use Rattle.cy_script.specs.Reading.{alone, behind_space, behind_word, between, number_field, quoted_field, word_field, word_of}
use Rattle.cy_script.proofs.Quoted.{between_is, between_again}
use Rattle.cy_script.proofs.Words.{first_word_lacks, number_lacks, some_then, word_alone, word_and_rest, word_then}

-- ---- options

pub bind_some : {A B : Type 0} (o : Option A) (f : A → Option B) (y : B) → option_and_then f o ≡ Some y → (x : A) × (o ≡ Some x) × (f x ≡ Some y)
bind_some None f y h = absurd cc
bind_some (Some x) f y h = (x, refl, h)

pub map_some : {A B : Type 0} (o : Option A) (f : A → B) (y : B) → option_map f o ≡ Some y → (x : A) × (o ≡ Some x) × (f x ≡ y)
map_some None f y h = absurd cc
map_some (Some x) f y h = let same : f x ≡ y = cc in (x, refl, same)

pub cond_cases : {A : Type 0} (t : Bool) (o p : Option A) (x : A) → cond t o p ≡ Some x → ((t ≡ true) × (o ≡ Some x)) ⊎ ((t ≡ false) × (p ≡ Some x))
cond_cases true o p x h = inl (refl, h)
cond_cases false o p x h = inr (refl, h)

pub alone_is : {A : Type 0} (x y : A) (rest : List ℕ) → alone x rest ≡ Some y → (rest ≡ []) × (x ≡ y)
alone_is x y [] h = let same : x ≡ y = cc in (refl, same)
alone_is x y (b ∷ rest) h = absurd cc

-- ---- words

space_is : (text field : List ℕ) → behind_space text ≡ Some field → text ≡ 32 ∷ field
space_is [] field h = absurd cc
space_is (b ∷ text) field h =
    let found = some_then (eqb b 32) (Some text) field h in
    let is : b ≡ 32 = grind (arith, nat_tests, found.0) in
    let same : text ≡ field = cc found.1 in
    cc

-- A word's field begins the text.
pub record HasWord (text word rest : List ℕ) : Type 0 where
  pub lacks_spaces : lacks 32 word ≡ true
  pub parts : text ≡ 32 ∷ (word ++ rest)

pub word_field_is : (text : List ℕ) (x : List ℕ × List ℕ) → word_field text ≡ Some x → HasWord text x.0 x.1
word_field_is text x h =
    let field = map_some (behind_space text) (λ (f : List ℕ). (word_of f, behind_word f)) x h in
    record {
      lacks_spaces = subst (λ (p : List ℕ × List ℕ). lacks 32 p.0 ≡ true) field.2 (first_word_lacks field.0);
      parts = space_is text field.0 field.1 ∙ ap (λ (t : List ℕ). 32 ∷ t) (word_and_rest field.0) ∙ ap (λ (p : List ℕ × List ℕ). 32 ∷ (p.0 ++ p.1)) field.2;
    }

abbrev cut : List ℕ → List ℕ → Option (List ℕ × List ℕ)
cut word rest = Some (word, rest)

cut_is : (a b c d : List ℕ) → a ≡ c → b ≡ d → cut a b ≡ cut c d
cut_is a b c d e f = ap (λ (x : List ℕ). cut x b) e ∙ ap (λ (x : List ℕ). cut c x) f

pub word_field_then : (word rest : List ℕ) → lacks 32 word ≡ true → word_field (32 ∷ (word ++ 32 ∷ rest)) ≡ Some (word, 32 ∷ rest)
word_field_then word rest h = let parts = word_then word rest h in cut_is _ _ _ _ parts.0 parts.1

pub word_field_last : (word : List ℕ) → lacks 32 word ≡ true → word_field (32 ∷ word) ≡ Some (word, [])
word_field_last word h = let parts = word_alone word h in cut_is _ _ _ _ parts.0 parts.1

-- ---- numbers

-- A number's field begins the text.
pub record HasDigits (text : List ℕ) (n : ℕ) (rest : List ℕ) : Type 0 where
  pub digits : List ℕ
  pub number : IsNumber digits n
  pub parts : text ≡ 32 ∷ (digits ++ rest)

abbrev with_rest : List ℕ → ℕ → ℕ × List ℕ
with_rest rest n = (n, rest)

pub number_field_is : (text : List ℕ) (x : ℕ × List ℕ) → number_field text ≡ Some x → HasDigits text x.0 x.1
number_field_is text x h =
    let field = bind_some (word_field text) (λ (f : List ℕ × List ℕ). option_map (with_rest f.1) (decimal_of f.0)) x h in
    let n = map_some (decimal_of field.0.0) (with_rest field.0.1) x field.2 in
    record {
      digits = field.0.0;
      number = n.1 ∙ ap (λ (p : ℕ × List ℕ). Some p.0) n.2;
      parts = (word_field_is text field.0 field.1).parts ∙ ap (λ (p : ℕ × List ℕ). 32 ∷ (field.0.0 ++ p.1)) n.2;
    }

pub number_field_then : (digits : List ℕ) (n : ℕ) (rest : List ℕ) → IsNumber digits n → number_field (32 ∷ (digits ++ 32 ∷ rest)) ≡ Some (n, 32 ∷ rest)
number_field_then digits n rest h =
    ap (λ (o : Option (List ℕ × List ℕ)). option_and_then (λ (f : List ℕ × List ℕ). option_map (with_rest f.1) (decimal_of f.0)) o) (word_field_then digits rest (number_lacks digits n h))
    ∙ ap (λ (o : Option ℕ). option_map (with_rest (32 ∷ rest)) o) h

pub number_field_last : (digits : List ℕ) (n : ℕ) → IsNumber digits n → number_field (32 ∷ digits) ≡ Some (n, [])
number_field_last digits n h =
    ap (λ (o : Option (List ℕ × List ℕ)). option_and_then (λ (f : List ℕ × List ℕ). option_map (with_rest f.1) (decimal_of f.0)) o) (word_field_last digits (number_lacks digits n h))
    ∙ ap (λ (o : Option ℕ). option_map (with_rest []) o) h

-- ---- quoted texts

ok_is : (r : Result (List ℕ) ℕ) (bytes : List ℕ) → result_ok r ≡ Some bytes → r ≡ Ok bytes
ok_is (Ok found) bytes h = cc
ok_is (Err place) bytes h = absurd cc

-- A quoted text is all of the text.
pub record HasQuoted (text bytes : List ℕ) : Type 0 where
  pub quoted : List ℕ
  pub quotes : IsQuoted quoted bytes
  pub parts : text ≡ 32 ∷ quoted

pub quoted_field_is : (text bytes : List ℕ) → quoted_field text ≡ Some bytes → HasQuoted text bytes
quoted_field_is text bytes h =
    let inner = bind_some (between (codes " \"") (codes "\"") text) (λ t. result_ok (unquoted t)) bytes h in
    record {
      quoted = codes "\"" ++ inner.0 ++ codes "\"";
      quotes = (inner.0, read_is_spelling inner.0 bytes (ok_is (unquoted inner.0) bytes inner.2), refl);
      parts = between_is (codes " \"") (codes "\"") text inner.0 inner.1;
    }

pub quoted_field_again : (quoted bytes : List ℕ) → IsQuoted quoted bytes → quoted_field (32 ∷ quoted) ≡ Some bytes
quoted_field_again quoted bytes h =
    ap (λ (q : List ℕ). quoted_field (32 ∷ q)) h.2
    ∙ ap (λ (o : Option (List ℕ)). option_and_then (λ t. result_ok (unquoted t)) o) (between_again (codes " \"") (codes "\"") h.0)
    ∙ ap result_ok (spelling_is_read h.0 bytes h.1)
