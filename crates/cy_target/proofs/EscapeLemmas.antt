-- Escapes: what the code tests and decodes is what the definition reads.
use Rattle.std.proofs.Common.{◌≡◌, ℕ, ◌+◌, ◌*◌, ◌<◌, ◌≤◌, Bool, true, false, not, ◌&&◌, ◌||◌, cond, List, [], ◌∷◌, ◌++◌, length, length-append, length-drop, refl, sym, ap, ◌∙◌, subst, arith, eqb, get_or, take, drop, ◌-◌, Ok, Err, Option, Some, None, inl, inr}
use Rattle.std.specs.Prelude.{is_some}
use Rattle.std.specs.Char.{digit_value, is_digit}
use Rattle.std.proofs.lemmas.Bool.{eqb-true, eqb-false, eq-eqb, ltb-true, lt-ltb, cases_Bool, and_parts, false≢true}
use Rattle.std.proofs.lemmas.List.{drop_more, take_all}
use Rattle.std.proofs.lemmas.List.Elements.{All-head, All-tail, All-cons, All-nil}
use Rattle.percent_encoding.specs.Percent.{percent_decode}
use Rattle.percent_encoding.proofs.PercentLemmas.{percent_decode-nil, percent_decode_escape, percent_decode_not_percent, length-percent_decode}
use Rattle.cy_event.specs.Targets.{unescaped, onto, is_escape, hex_byte, may_be_escaped}
use Rattle.cy_event.proofs.Cuts.{Lacks}
use Rattle.cy_target.specs.Reading.{Appends, begins_with_escape}

-- each percent sign begins an escape
abbrev pub escapes_right : List ℕ → Bool
escapes_right [] = true
escapes_right (b ∷ bytes) = (not (eqb b 37) || begins_with_escape bytes) && escapes_right bytes

is_some-onto : (b : ℕ) (o : Option (List ℕ)) → is_some (onto b o) ≡ is_some o
is_some-onto b None = refl
is_some-onto b (Some bytes) = refl

-- a digit is no percent sign
digit_is_other : (b : ℕ) → is_digit b 16 ≡ true → eqb b 37 ≡ false
digit_is_other b digit = elim (cases_Bool (eqb b 37)) as (λ w. eqb b 37 ≡ false) [
  | inl same ↦ absurd (false≢true (subst (λ (c : ℕ). is_digit c 16 ≡ true) (eqb-true b 37 same) digit))
  | inr other ↦ other
]

passes_other : (b : ℕ) (bytes : List ℕ) → eqb b 37 ≡ false → escapes_right (b ∷ bytes) ≡ escapes_right bytes
passes_other b bytes other = ap (λ (t : Bool). (not t || begins_with_escape bytes) && escapes_right bytes) other

escape_passes : (high low : ℕ) (bytes : List ℕ) → is_escape high low ≡ true → escapes_right (high ∷ low ∷ bytes) ≡ escapes_right bytes
escape_passes high low bytes e =
    let digits = and_parts _ _ (and_parts (is_digit high 16 && is_digit low 16) _ e).0 in
    passes_other high (low ∷ bytes) (digit_is_other high digits.0) ∙ passes_other low bytes (digit_is_other low digits.1)

escape_by_test : (high low : ℕ) (bytes : List ℕ) → is_some (unescaped bytes) ≡ escapes_right bytes
    → (t : Bool) → is_escape high low ≡ t
    → is_some (cond t (onto (hex_byte high low) (unescaped bytes)) None) ≡ (t && escapes_right (high ∷ low ∷ bytes))
escape_by_test high low bytes ih true e = is_some-onto _ _ ∙ ih ∙ sym (escape_passes high low bytes e)
escape_by_test high low bytes ih false e = refl

pub is_some-unescaped : (bytes : List ℕ) → is_some (unescaped bytes) ≡ escapes_right bytes
is_some-unescaped [] = refl
is_some-unescaped (b ∷ []) =
    elim (eqb b 37) as (λ t. is_some (cond t None (Some (b ∷ []))) ≡ ((not t || false) && true)) [ true ↦ refl | false ↦ refl ]
is_some-unescaped (b ∷ c ∷ []) =
    elim (eqb b 37) as (λ t. is_some (cond t None (onto b (unescaped (c ∷ [])))) ≡ ((not t || false) && escapes_right (c ∷ []))) [
      | true ↦ refl
      | false ↦ is_some-onto b _ ∙ is_some-unescaped (c ∷ [])
    ]
is_some-unescaped (b ∷ high ∷ low ∷ bytes) =
    elim (eqb b 37) as (λ t. is_some (cond t (cond (is_escape high low) (onto (hex_byte high low) (unescaped bytes)) None) (onto b (unescaped (high ∷ low ∷ bytes)))) ≡ ((not t || is_escape high low) && escapes_right (high ∷ low ∷ bytes))) [
      | true ↦ escape_by_test high low bytes (is_some-unescaped bytes) (is_escape high low) refl
      | false ↦ is_some-onto b _ ∙ is_some-unescaped (high ∷ low ∷ bytes)
    ]

-- ---- decoding

onto-some : (b : ℕ) (o : Option (List ℕ)) (plain : List ℕ) → onto b o ≡ Some plain → (rest : List ℕ) × (o ≡ Some rest) × (plain ≡ b ∷ rest)
onto-some b None plain e = absurd (cc)
onto-some b (Some rest) plain e = (rest, refl, cc)

keeps_byte : (b : ℕ) (bytes plain : List ℕ) → ((rest : List ℕ) → unescaped bytes ≡ Some rest → percent_decode bytes ≡ rest)
    → eqb b 37 ≡ false → onto b (unescaped bytes) ≡ Some plain → percent_decode (b ∷ bytes) ≡ plain
keeps_byte b bytes plain ih other e =
    let w = onto-some b (unescaped bytes) plain e in
    percent_decode_not_percent b bytes (eqb-false b 37 other) ∙ ap (λ (r : List ℕ). b ∷ r) (ih w.0 w.1) ∙ sym w.2

takes_escape : (b high low : ℕ) (bytes plain : List ℕ) → ((rest : List ℕ) → unescaped bytes ≡ Some rest → percent_decode bytes ≡ rest)
    → eqb b 37 ≡ true → (t : Bool) → is_escape high low ≡ t → cond t (onto (hex_byte high low) (unescaped bytes)) None ≡ Some plain
    → percent_decode (b ∷ high ∷ low ∷ bytes) ≡ plain
takes_escape b high low bytes plain ih same true is e =
    let w = onto-some (hex_byte high low) (unescaped bytes) plain e in
    let digits = and_parts _ _ (and_parts (is_digit high 16 && is_digit low 16) _ is).0 in
    percent_decode_escape b high low bytes (eqb-true b 37 same) (ltb-true _ _ digits.0) (ltb-true _ _ digits.1)
    ∙ ap (λ (r : List ℕ). hex_byte high low ∷ r) (ih w.0 w.1) ∙ sym w.2
takes_escape b high low bytes plain ih same false is e = absurd (cc)

one_byte : (b : ℕ) (plain : List ℕ) (t : Bool) → eqb b 37 ≡ t → cond t None (Some (b ∷ [])) ≡ Some plain → percent_decode (b ∷ []) ≡ plain
one_byte b plain true same e = absurd (cc)
one_byte b plain false other e =
    percent_decode_not_percent b [] (eqb-false b 37 other) ∙ ap (λ (r : List ℕ). b ∷ r) percent_decode-nil ∙ cc

two_bytes : (b c : ℕ) (plain : List ℕ) → ((rest : List ℕ) → unescaped (c ∷ []) ≡ Some rest → percent_decode (c ∷ []) ≡ rest)
    → (t : Bool) → eqb b 37 ≡ t → cond t None (onto b (unescaped (c ∷ []))) ≡ Some plain → percent_decode (b ∷ c ∷ []) ≡ plain
two_bytes b c plain ih true same e = absurd (cc)
two_bytes b c plain ih false other e = keeps_byte b (c ∷ []) plain ih other e

more_bytes : (b high low : ℕ) (bytes plain : List ℕ) → ((rest : List ℕ) → unescaped bytes ≡ Some rest → percent_decode bytes ≡ rest)
    → ((rest : List ℕ) → unescaped (high ∷ low ∷ bytes) ≡ Some rest → percent_decode (high ∷ low ∷ bytes) ≡ rest)
    → (t : Bool) → eqb b 37 ≡ t
    → cond t (cond (is_escape high low) (onto (hex_byte high low) (unescaped bytes)) None) (onto b (unescaped (high ∷ low ∷ bytes))) ≡ Some plain
    → percent_decode (b ∷ high ∷ low ∷ bytes) ≡ plain
more_bytes b high low bytes plain after all true same e = takes_escape b high low bytes plain after same (is_escape high low) refl e
more_bytes b high low bytes plain after all false other e = keeps_byte b (high ∷ low ∷ bytes) plain all other e

-- what is read is what percent-decoding gives
pub unescaped_decodes : (bytes plain : List ℕ) → unescaped bytes ≡ Some plain → percent_decode bytes ≡ plain
unescaped_decodes [] plain e = percent_decode-nil ∙ cc
unescaped_decodes (b ∷ []) plain e = one_byte b plain (eqb b 37) refl e
unescaped_decodes (b ∷ c ∷ []) plain e = two_bytes b c plain (unescaped_decodes (c ∷ [])) (eqb b 37) refl e
unescaped_decodes (b ∷ high ∷ low ∷ bytes) plain e =
    more_bytes b high low bytes plain (unescaped_decodes bytes) (unescaped_decodes (high ∷ low ∷ bytes)) (eqb b 37) refl e

-- ---- no slash comes out of an escape

escaped_is_other : (c : ℕ) → may_be_escaped c ≡ true → eqb c 47 ≡ false
escaped_is_other c e = elim (cases_Bool (eqb c 47)) as (λ w. eqb c 47 ≡ false) [
  | inl same ↦ absurd (false≢true (subst (λ (d : ℕ). may_be_escaped d ≡ true) (eqb-true c 47 same) e))
  | inr other ↦ other
]

keeps_lacking : (b : ℕ) (o : Option (List ℕ)) (plain : List ℕ) → ((rest : List ℕ) → o ≡ Some rest → Lacks 47 rest)
    → eqb b 47 ≡ false → onto b o ≡ Some plain → Lacks 47 plain
keeps_lacking b o plain ih other e =
    let w = onto-some b o plain e in
    subst (Lacks 47) (sym w.2) (All-cons (λ v. eqb v 47 ≡ false) b w.0 other (ih w.0 w.1))

lacking_by_escape : (high low : ℕ) (o : Option (List ℕ)) (plain : List ℕ) → ((rest : List ℕ) → o ≡ Some rest → Lacks 47 rest)
    → (t : Bool) → is_escape high low ≡ t → cond t (onto (hex_byte high low) o) None ≡ Some plain → Lacks 47 plain
lacking_by_escape high low o plain ih true is e =
    keeps_lacking (hex_byte high low) o plain ih (escaped_is_other _ (and_parts (is_digit high 16 && is_digit low 16) _ is).1) e
lacking_by_escape high low o plain ih false is e = absurd (cc)

lacking_by_test : (b high low : ℕ) (o all : Option (List ℕ)) (plain : List ℕ) → ((rest : List ℕ) → o ≡ Some rest → Lacks 47 rest)
    → ((rest : List ℕ) → all ≡ Some rest → Lacks 47 rest) → eqb b 47 ≡ false
    → (t : Bool) → cond t (cond (is_escape high low) (onto (hex_byte high low) o) None) (onto b all) ≡ Some plain → Lacks 47 plain
lacking_by_test b high low o all plain after whole other true e = lacking_by_escape high low o plain after (is_escape high low) refl e
lacking_by_test b high low o all plain after whole other false e = keeps_lacking b all plain whole other e

lacking_short : (b : ℕ) (o : Option (List ℕ)) (plain : List ℕ) → ((rest : List ℕ) → o ≡ Some rest → Lacks 47 rest)
    → eqb b 47 ≡ false → (t : Bool) → cond t None (onto b o) ≡ Some plain → Lacks 47 plain
lacking_short b o plain ih other true e = absurd (cc)
lacking_short b o plain ih other false e = keeps_lacking b o plain ih other e

nothing_lacks : (rest : List ℕ) → Some [] ≡ Some rest → Lacks 47 rest
nothing_lacks rest e = let same : [] ≡ rest = cc in subst (Lacks 47) same (All-nil (λ v. eqb v 47 ≡ false))

pub unescaped_lacks : (bytes plain : List ℕ) → Lacks 47 bytes → unescaped bytes ≡ Some plain → Lacks 47 plain
unescaped_lacks [] plain lacks e = nothing_lacks plain e
unescaped_lacks (b ∷ []) plain lacks e =
    lacking_short b (Some []) plain nothing_lacks (All-head (λ v. eqb v 47 ≡ false) b [] lacks) (eqb b 37) e
unescaped_lacks (b ∷ c ∷ []) plain lacks e =
    lacking_short b (unescaped (c ∷ [])) plain (λ rest. unescaped_lacks (c ∷ []) rest (All-tail (λ v. eqb v 47 ≡ false) b (c ∷ []) lacks))
    (All-head (λ v. eqb v 47 ≡ false) b (c ∷ []) lacks) (eqb b 37) e
unescaped_lacks (b ∷ high ∷ low ∷ bytes) plain lacks e =
    let tail = All-tail (λ v. eqb v 47 ≡ false) b (high ∷ low ∷ bytes) lacks in
    let after = All-tail (λ v. eqb v 47 ≡ false) low bytes (All-tail (λ v. eqb v 47 ≡ false) high (low ∷ bytes) tail) in
    lacking_by_test b high low (unescaped bytes) (unescaped (high ∷ low ∷ bytes)) plain
    (λ rest. unescaped_lacks bytes rest after) (λ rest. unescaped_lacks (high ∷ low ∷ bytes) rest tail)
    (All-head (λ v. eqb v 47 ≡ false) b (high ∷ low ∷ bytes) lacks) (eqb b 37) e

-- ---- the tests

pub escape_is : (high low h l : ℕ) → digit_value high < 16 → digit_value low < 16 → h ≡ digit_value high → l ≡ digit_value low
    → may_be_escaped (h * 16 + l) ≡ is_escape high low
escape_is high low h l first second is_high is_low =
    let value : h * 16 + l ≡ hex_byte high low = omega arith in
    ap may_be_escaped value
    ∙ sym (ap (λ (t : Bool). (t && is_digit low 16) && may_be_escaped (hex_byte high low)) (lt-ltb _ _ first)
    ∙ ap (λ (t : Bool). t && may_be_escaped (hex_byte high low)) (lt-ltb _ _ second))

escapes_right-false : (b : ℕ) (bytes : List ℕ) → b ≡ 37 → begins_with_escape bytes ≡ false → escapes_right (b ∷ bytes) ≡ false
escapes_right-false b bytes same wrong =
    ap (λ (t : Bool). (not t || begins_with_escape bytes) && escapes_right bytes) (eq-eqb b 37 same)
    ∙ ap (λ (t : Bool). t && escapes_right bytes) wrong

-- a wrong escape at a place
pub wrong_at : (bytes : List ℕ) (i : ℕ) → i < length bytes → get_or bytes i 0 ≡ 37
    → begins_with_escape (take (length bytes - (i + 1)) (drop (i + 1) bytes)) ≡ false → escapes_right (drop i bytes) ≡ false
wrong_at bytes i inside same wrong =
    let all : take (length bytes - (i + 1)) (drop (i + 1) bytes) ≡ drop (i + 1) bytes = take_all _ (drop (i + 1) bytes) (omega (arith, length-drop (i + 1) bytes)) in
    ap escapes_right (drop_more bytes i 0 inside)
    ∙ escapes_right-false _ (drop (i + 1) bytes) same (ap begins_with_escape (sym all) ∙ wrong)

pub appended : (old new bytes : List ℕ) → is_some (unescaped bytes) ≡ true → new ≡ old ++ percent_decode bytes → Appends old (unescaped bytes) new (Ok tt)
appended old new bytes some e = by_cases (unescaped bytes) refl some
  where
    by_cases : (o : Option (List ℕ)) → unescaped bytes ≡ o → is_some o ≡ true → Appends old o new (Ok tt)
    by_cases None is some = absurd (false≢true some)
    by_cases (Some plain) is some = e ∙ ap (λ (r : List ℕ). old ++ r) (unescaped_decodes bytes plain is)

pub refused : (old : List ℕ) (bytes : List ℕ) → is_some (unescaped bytes) ≡ false → Appends old (unescaped bytes) old (Err (record {}))
refused old bytes none = by_cases (unescaped bytes) none
  where
    by_cases : (o : Option (List ℕ)) → is_some o ≡ false → Appends old o old (Err (record {}))
    by_cases None none = refl
    by_cases (Some plain) none = absurd (false≢true (sym none))

-- while bytes are left to write there is room for one
pub has_room : (written left old bytes rest : List ℕ) (b room : ℕ) → written ++ left ≡ old ++ percent_decode bytes → left ≡ b ∷ rest
    → length old + length bytes ≤ room → length written < room
has_room written left old bytes rest b room all is fits =
    omega (arith, simp length-append at (ap length all), ap length is, (length-percent_decode bytes).0)
