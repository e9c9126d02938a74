-- Texts without a byte: LF stands in no line of a head, and a colon in no name.
use Rattle.std.proofs.Common.{◌≡◌, ℕ, zero, suc, ◌+◌, ◌-◌, ◌/◌, ◌%◌, Bool, true, false, not, cond, List, [], ◌∷◌, ◌++◌, codes, eqb, refl, sym, ap, ◌∙◌, arith, slice_index_or}
use Rattle.std.specs.Prelude.{decimal, nat_lt, ◌==◌}
use Rattle.std.specs.Fmt.{digit_glyph, digits, digits_onto}
use Rattle.std.specs.List.{list_all}
use Rattle.std.proofs.lemmas.Bool.{and_from, and_parts, false≢true, ne_eqb, not-true, not_from_false}
use Rattle.std.proofs.lemmas.List.Elements.{All-weaker}
use Rattle.std.proofs.lemmas.List.Folds.{list_all-append}
use Rattle.std.proofs.lemmas.List.Sums.{AllPass-from_list_all}
use Rattle.cy_event.specs.Dates.{date_at, day_name, day_names, day_text, four_digits, month_and_days, month_name, month_names, time_text, two_digits, year_and_days}
use Rattle.cy_event.specs.Heads.{line_feed}
use Rattle.cy_event.proofs.Cuts.{Lacks}

abbrev pub is_other : ℕ → ℕ → Bool
is_other c b = not (b == c)

-- no byte is c
abbrev pub is_without : ℕ → List ℕ → Bool
is_without c bytes = list_all (is_other c) bytes

abbrev pub is_unbroken : List ℕ → Bool
is_unbroken bytes = is_without line_feed bytes

pub unbroken-append : (xs ys : List ℕ) → is_unbroken xs ≡ true → is_unbroken ys ≡ true → is_unbroken (xs ++ ys) ≡ true
unbroken-append xs ys first later = list_all-append (is_other line_feed) xs ys ∙ and_from _ _ first later

pub without-Lacks : (c : ℕ) (xs : List ℕ) → is_without c xs ≡ true → Lacks c xs
without-Lacks c xs without =
    All-weaker (λ b. is_other c b ≡ true) (λ b. eqb b c ≡ false) (λ b passes. not-true (eqb b c) passes) xs (AllPass-from_list_all (is_other c) xs without)

other : (c b : ℕ) → (b ≡ c → ⊥) → is_other c b ≡ true
other c b differs = not_from_false (eqb b c) (ne_eqb b c differs)

-- bytes of a kind to which c doesn't belong
pub without_by : (c : ℕ) (test : ℕ → Bool) → test c ≡ false → (xs : List ℕ) → list_all test xs ≡ true → is_without c xs ≡ true
without_by c test fails [] all = refl
without_by c test fails (x ∷ xs) all =
    let parts = and_parts (test x) (list_all test xs) all in
    and_from _ _ (other c x (λ e. false≢true (sym fails ∙ ap test (sym e) ∙ parts.0))) (without_by c test fails xs parts.1)

-- ---- numbers

glyph_is_no_end : (d : ℕ) → is_other line_feed (digit_glyph false d) ≡ true
glyph_is_no_end d =
    elim (nat_lt d 10) as (λ t. is_other line_feed (cond t (48 + d) (87 + d)) ≡ true) [
      | true ↦ other line_feed (48 + d) (λ e. omega arith)
      | false ↦ other line_feed (87 + d) (λ e. omega arith)
    ]

digits_unbroken : (k n : ℕ) (behind : List ℕ) → is_unbroken behind ≡ true → is_unbroken (digits_onto k 10 false n behind) ≡ true
digits_unbroken zero n behind unbroken = unbroken
digits_unbroken (suc k) n behind unbroken =
    let more : is_unbroken (digit_glyph false (n % 10) ∷ behind) ≡ true = and_from _ _ (glyph_is_no_end (n % 10)) unbroken in
    elim (n / 10 == 0) as (λ t. is_unbroken (cond t (digit_glyph false (n % 10) ∷ behind) (digits_onto k 10 false (n / 10) (digit_glyph false (n % 10) ∷ behind))) ≡ true) [
      | true ↦ more
      | false ↦ digits_unbroken k (n / 10) (digit_glyph false (n % 10) ∷ behind) more
    ]

pub decimal_unbroken : (n : ℕ) → is_unbroken (decimal n) ≡ true
unfolding digits
decimal_unbroken n = digits_unbroken 64 n [] refl

-- ---- dates

digit_is_no_end : (d : ℕ) → is_other line_feed (48 + d) ≡ true
digit_is_no_end d = other line_feed (48 + d) (λ e. omega arith)

name_unbroken : (names : List (List ℕ)) (n : ℕ) → list_all is_unbroken names ≡ true → is_unbroken (slice_index_or names n []) ≡ true
name_unbroken [] n all = refl
name_unbroken (name ∷ names) zero all = (and_parts (is_unbroken name) (list_all is_unbroken names) all).0
name_unbroken (name ∷ names) (suc n) all = name_unbroken names n (and_parts (is_unbroken name) (list_all is_unbroken names) all).1

two_unbroken : (n : ℕ) → is_unbroken (two_digits n) ≡ true
two_unbroken n = simp digit_is_no_end refl

four_unbroken : (n : ℕ) → is_unbroken (four_digits n) ≡ true
four_unbroken n = simp digit_is_no_end refl

-- three texts, with the same between them
three_unbroken : (a b c between : List ℕ) → is_unbroken a ≡ true → is_unbroken b ≡ true → is_unbroken c ≡ true → is_unbroken between ≡ true
    → is_unbroken (a ++ between ++ b ++ between ++ c) ≡ true
three_unbroken a b c between first second third gap = simp (list_all-append, first, second, third, gap) refl

day_unbroken : (days : ℕ) → is_unbroken (day_text days) ≡ true
day_unbroken days =
    let year = year_and_days days in
    let month = month_and_days year.0 year.1 in
    three_unbroken (two_digits (month.1 + 1)) (month_name month.0) (four_digits year.0) (codes " ")
    (two_unbroken (month.1 + 1)) (name_unbroken month_names (month.0 - 1) refl) (four_unbroken year.0) refl

time_unbroken : (seconds : ℕ) → is_unbroken (time_text seconds) ≡ true
time_unbroken seconds =
    three_unbroken (two_digits (seconds / 3600)) (two_digits (seconds % 3600 / 60)) (two_digits (seconds % 60)) (codes ":")
    (two_unbroken (seconds / 3600)) (two_unbroken (seconds % 3600 / 60)) (two_unbroken (seconds % 60)) refl

parts_unbroken : (name day time : List ℕ) → is_unbroken name ≡ true → is_unbroken day ≡ true → is_unbroken time ≡ true
    → is_unbroken (name ++ codes ", " ++ day ++ codes " " ++ time ++ codes " GMT") ≡ true
parts_unbroken name day time a b c = simp (list_all-append, a, b, c) refl

pub date_unbroken : (moment : ℕ) → is_unbroken (date_at moment) ≡ true
unfolding date_at
date_unbroken moment =
    let seconds = moment / 1000 in
    let days = seconds / 86400 in
    parts_unbroken (day_name days) (day_text days) (time_text (seconds % 86400))
    (name_unbroken day_names ((days + 3) % 7) refl) (day_unbroken days) (time_unbroken (seconds % 86400))
