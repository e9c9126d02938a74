-- Lengths: what is remembered of them tells the framing.
use Rattle.std.proofs.Common.{◌≡◌, ℕ, ◌<◌, ◌≤◌, ◌^◌, Bool, true, false, ◌&&◌, ◌||◌, cond, List, [], ◌∷◌, length, refl, sym, ap, ◌∙◌, subst, arith, eqb, leb, ltb, Option, Some, None, Result, Ok, Err, inl, inr}
use Rattle.std.specs.Prelude.{fold}
use Rattle.std.specs.Char.{is_digit}
use Rattle.std.specs.List.{list_all}
use Rattle.std.specs.Str.Parse.{digits_value}
use Rattle.std.proofs.lemmas.Bool.{cond-true, cond-false, eqb-true, eq-eqb, cases_Bool, le-leb, lt-leb, ltb-false}
use Rattle.cy_bytes.specs.Numbers.{decimal_of, has_leading_zero, number_of}
use Rattle.cy_bytes.specs.Tokens as token
use Rattle.cy_event.specs.Framings.{greatest_length, is_number, length_framing}
use Rattle.cy_event.specs.declared.framing.Framing.{Framing}
use Rattle.cy_event.specs.declared.framing.Framing.TheVariants.{Length}
use Rattle.cy_framing.specs.Lists.{after_element, after_number, length_in, lengths_verdict, without_zeros}
use Rattle.cy_framing.specs.declared.lengths.Lengths.{Lengths}
use Rattle.cy_framing.specs.declared.lengths.Lengths.TheVariants.{Unknown, Same, Refused}

-- ---- all elements

refused_stays : (elements : List (List ℕ)) → fold after_element Refused elements ≡ Refused
refused_stays [] = refl
refused_stays (element ∷ elements) = by_number (length_in element) ∙ refused_stays elements
  where
    by_number : (n : Option ℕ) → fold after_element (after_number Refused n) elements ≡ fold after_element Refused elements
    by_number None = refl
    by_number (Some n) = refl

-- one more element behind one of a number that isn't too great
same_by_tests : (m n : ℕ) (digits fits same : Bool) → eqb m n ≡ same → (same ≡ true → fits ≡ true)
    → after_number (Same m) (cond (digits && fits) (Some n) None) ≡ cond (digits && same) (Same m) Refused
same_by_tests m n true true same e fit = ap (λ (t : Bool). cond t (Same m) Refused) e
same_by_tests m n true false true e fit = absurd (let h = fit refl in cc)
same_by_tests m n true false false e fit = refl
same_by_tests m n false fits same e fit = refl

eqb-sym : (m n : ℕ) → eqb m n ≡ eqb n m
eqb-sym m n = elim (cases_Bool (eqb n m)) as (λ w. eqb m n ≡ eqb n m) [
  | inl same ↦ eq-eqb m n (sym (eqb-true n m same)) ∙ sym same
  | inr other ↦ ne_from (λ e. cc (eq-eqb n m (sym e))) ∙ sym other
]
  where
    ne_from : (m ≡ n → ⊥) → eqb m n ≡ false
    ne_from differ = elim (cases_Bool (eqb m n)) as (λ w. eqb m n ≡ false) [
      | inl same ↦ absurd (differ (eqb-true m n same))
      | inr other ↦ other
    ]

after_same : (m : ℕ) (element : List ℕ) → leb m greatest_length ≡ true → after_element (Same m) element ≡ cond (is_number m element) (Same m) Refused
after_same m element small =
    let n : ℕ = digits_value 10 element in
    same_by_tests m n (list_all (λ b. is_digit b 10) element) (leb n greatest_length) (eqb n m) (eqb-sym m n)
    (λ same. ap (λ (k : ℕ). leb k greatest_length) (eqb-true n m same) ∙ small)

same_by_test : (m : ℕ) (elements : List (List ℕ)) → fold after_element (Same m) elements ≡ cond (list_all (is_number m) elements) (Same m) Refused
    → (t : Bool) → fold after_element (cond t (Same m) Refused) elements ≡ cond (t && list_all (is_number m) elements) (Same m) Refused
same_by_test m elements ih true = ih
same_by_test m elements ih false = refused_stays elements

all_same : (m : ℕ) (elements : List (List ℕ)) → leb m greatest_length ≡ true → fold after_element (Same m) elements ≡ cond (list_all (is_number m) elements) (Same m) Refused
all_same m [] small = refl
all_same m (element ∷ elements) small =
    ap (λ (lengths : Lengths). fold after_element lengths elements) (after_same m element small)
    ∙ same_by_test m elements (all_same m elements small) (is_number m element)

first_by_tests : (n : ℕ) (elements : List (List ℕ)) (digits small : Bool) → leb n greatest_length ≡ small
    → lengths_verdict (fold after_element (after_number Unknown (cond (digits && small) (Some n) None)) elements)
    ≡ cond (((digits && true) && list_all (is_number n) elements) && small) (Ok (Length n)) (Err 400)
first_by_tests n elements true true small =
    ap lengths_verdict (all_same n elements small) ∙ by_test (list_all (is_number n) elements)
  where
    by_test : (t : Bool) → lengths_verdict (cond t (Same n) Refused) ≡ cond (t && true) (Ok (Length n)) (Err 400)
    by_test true = refl
    by_test false = refl
first_by_tests n elements true false small =
    ap lengths_verdict (refused_stays elements) ∙ by_test (list_all (is_number n) elements)
  where
    by_test : (t : Bool) → let none : Result Framing ℕ = Err 400 in none ≡ cond (t && false) (Ok (Length n)) none
    by_test true = refl
    by_test false = refl
first_by_tests n elements false small e = ap lengths_verdict (refused_stays elements)

pub lengths_tell : (elements : List (List ℕ)) → lengths_verdict (fold after_element Unknown elements) ≡ length_framing elements
lengths_tell [] = refl
lengths_tell (element ∷ elements) =
    let n : ℕ = digits_value 10 element in
    let digits : Bool = list_all (λ b. is_digit b 10) element in
    first_by_tests n elements digits (leb n greatest_length) refl
    ∙ ap (λ (t : Bool). cond (((digits && t) && list_all (is_number n) elements) && leb n greatest_length) (Ok (Length n)) (Err 400)) (sym (eq-eqb n n refl))

-- ---- one element

no_zero : (element : List ℕ) → has_leading_zero (without_zeros element) ≡ false
no_zero [] = refl
no_zero (b ∷ bytes) = by_test bytes (eqb b 48) refl (no_zero bytes)
  where
    by_more : (more : List ℕ) → eqb b 48 ≡ false → has_leading_zero (b ∷ more) ≡ false
    by_more [] e = refl
    by_more (c ∷ more) e = e

    by_test : (rest : List ℕ) (t : Bool) → eqb b 48 ≡ t → has_leading_zero (without_zeros rest) ≡ false → has_leading_zero (cond t (without_zeros rest) (b ∷ rest)) ≡ false
    by_test rest true e ih = ih
    by_test rest false e ih = by_more rest e

-- zeros before a number change nothing
zeros_by_test : (b : ℕ) (bytes : List ℕ) → number_of 10 (without_zeros bytes) ≡ number_of 10 bytes → (t : Bool) → eqb b 48 ≡ t
    → number_of 10 (cond t (without_zeros bytes) (b ∷ bytes)) ≡ number_of 10 (b ∷ bytes)
zeros_by_test b bytes ih true e =
    let zero : b ≡ 48 = eqb-true b 48 e in
    ih ∙ ap (λ (c : ℕ). number_of 10 (c ∷ bytes)) (sym zero)
zeros_by_test b bytes ih false e = refl

number-without_zeros : (element : List ℕ) → number_of 10 (without_zeros element) ≡ number_of 10 element
number-without_zeros [] = refl
number-without_zeros (b ∷ bytes) = zeros_by_test b bytes (number-without_zeros bytes) (eqb b 48) refl

pub all_zeros : (element : List ℕ) → without_zeros element ≡ [] → Some 0 ≡ number_of 10 element
all_zeros element e = sym (ap (number_of 10) e) ∙ number-without_zeros element

decimal_by_test : (digits : List ℕ) → token.is_empty digits ≡ false → has_leading_zero digits ≡ false → decimal_of digits ≡ number_of 10 digits
unfolding decimal_of
decimal_by_test digits some first =
    ap (λ (t : Bool). cond (t || has_leading_zero digits) None (number_of 10 digits)) some
    ∙ ap (λ (t : Bool). cond t None (number_of 10 digits)) first

pub decimal_is : (element : List ℕ) → token.is_empty (without_zeros element) ≡ false → decimal_of (without_zeros element) ≡ number_of 10 element
decimal_is element some = decimal_by_test (without_zeros element) some (no_zero element) ∙ number-without_zeros element

pub none_is : (digits : List ℕ) (r : Bool) → r ≡ eqb (length digits) 0 → r ≡ true → digits ≡ []
none_is [] r e is = refl
none_is (b ∷ digits) r e is = absurd (let same : eqb (length (b ∷ digits)) 0 ≡ true = sym e ∙ is in let none : length (b ∷ digits) ≡ 0 = eqb-true _ _ same in omega arith)

pub some_is : (digits : List ℕ) (r : Bool) → r ≡ eqb (length digits) 0 → r ≡ false → token.is_empty digits ≡ false
some_is [] r e is = absurd (cc)
some_is (b ∷ digits) r e is = refl

small_by : (v n : ℕ) (digits fits : Bool) → Some n ≡ cond digits (cond fits (Some v) None) None → n ≤ greatest_length
    → Some n ≡ cond (digits && leb v greatest_length) (Some v) None
small_by v n true true e small =
    let same : n ≡ v = cc in
    let within : v ≤ greatest_length = subst (λ (k : ℕ). k ≤ greatest_length) same small in
    ap Some same ∙ sym (cond-true (leb v greatest_length) (Some v) None (le-leb v greatest_length within))
small_by v n true false e small = absurd (cc)
small_by v n false fits e small = absurd (cc)

pub small_is : (element : List ℕ) (n : ℕ) → Some n ≡ number_of 10 element → n ≤ greatest_length → Some n ≡ length_in element
small_is element n e small =
    let v : ℕ = digits_value 10 element in
    small_by v n (list_all (λ b. is_digit b 10) element) (ltb v (2 ^ 64)) e small

great_by : (v n : ℕ) (digits fits : Bool) → Some n ≡ cond digits (cond fits (Some v) None) None → greatest_length < n
    → None ≡ cond (digits && leb v greatest_length) (Some v) None
great_by v n true true e great =
    let same : n ≡ v = cc in
    let above : greatest_length < v = subst (λ (k : ℕ). greatest_length < k) same great in
    sym (cond-false (leb v greatest_length) (Some v) None (lt-leb v greatest_length above))
great_by v n true false e great = absurd (cc)
great_by v n false fits e great = refl

pub great_is : (element : List ℕ) (n : ℕ) → Some n ≡ number_of 10 element → greatest_length < n → None ≡ length_in element
great_is element n e great =
    let v : ℕ = digits_value 10 element in
    great_by v n (list_all (λ b. is_digit b 10) element) (ltb v (2 ^ 64)) e great

none_by : (v : ℕ) (digits fits : Bool) → ltb v (2 ^ 64) ≡ fits → None ≡ cond digits (cond fits (Some v) None) None
    → None ≡ cond (digits && leb v greatest_length) (Some v) None
none_by v true true f e = absurd (cc)
none_by v true false f e =
    let past : 2 ^ 64 ≤ v = ltb-false v (2 ^ 64) f in
    let above : greatest_length < v = omega (arith, past) in
    sym (cond-false (leb v greatest_length) (Some v) None (lt-leb v greatest_length above))
none_by v false fits f e = refl

pub no_number_is : (element : List ℕ) → None ≡ number_of 10 element → None ≡ length_in element
no_number_is element e =
    let v : ℕ = digits_value 10 element in
    none_by v (list_all (λ b. is_digit b 10) element) (ltb v (2 ^ 64)) refl e
