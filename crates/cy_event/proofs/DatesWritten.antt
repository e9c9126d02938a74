-- The parts that a moment counts to are a valid date with the moment's second, and the text of these parts is the moment's.
use Rattle.std.proofs.Common.{◌≡◌, ℕ, suc, ◌+◌, ◌-◌, ◌/◌, ◌%◌, ◌<◌, ◌≤◌, true, List, [], length, refl, sym, ap, ◌∙◌, slice_index_or, arith, length-append, append_assoc}
use Rattle.std.specs.Prelude.{◌==◌}
use Rattle.std.specs.List.{list_all}
use Rattle.std.proofs.lemmas.Bool.{eqb-true}
use Rattle.std.proofs.lemmas.Bool.Decides.{nat_tests}
use Rattle.std.proofs.lemmas.List.Sums.{AllPass-from_list_all}
use Rattle.httpdate.specs.declared.parts.Parts.{Parts}
use Rattle.httpdate.specs.Calendar.{days_of_years, days_of_months, days_from_civil, weekday}
use Rattle.httpdate.specs.Text.{imf_fixdate}
use Rattle.httpdate.specs.Valid.{IsValid, parts_secs}
use Rattle.httpdate.proofs.CalendarLemmas.{days_of_years_closed, days_of_months_more, days_of_months_all}
use Rattle.httpdate.proofs.ValidLemmas.{is_valid_complete}
use Rattle.httpdate.proofs.Theorems.{date_text_is}
use Rattle.cy_event.specs.Dates.{days_in_year, days_in_month, year_and_days, month_and_days, date_at, day_names, month_names}
use Rattle.cy_event.specs.DateText.{DatesAreHttpdatesText}
use Rattle.cy_event.proofs.DatesCounted.{IsCounted, counted, found_before}

-- the days before a year, and before a month of a year
abbrev pub before_year : ℕ → ℕ
before_year year = days_of_years (year - 1970)

abbrev pub before_month : ℕ → ℕ → ℕ
before_month year month = days_of_months year (month - 1)

no_year_shorter : (year : ℕ) → 365 ≤ days_in_year year
no_year_shorter year = grind (arith, nat_tests)

no_month_shorter : (year month : ℕ) → 28 ≤ days_in_month year month
no_month_shorter year month = grind (arith, nat_tests)

years_sum : (year : ℕ) → 1970 ≤ year → before_year (year + 1) ≡ before_year year + days_in_year year
unfolding days_of_years
years_sum year after =
    let next : year + 1 - 1970 ≡ suc (year - 1970) = omega arith in
    let same : 1970 + (year - 1970) ≡ year = omega arith in
    rw (next, same) refl

months_sum : (year month : ℕ) → 1 ≤ month → before_month year (month + 1) ≡ before_month year month + days_in_month year month
months_sum year month after =
    let same : month + 1 - 1 ≡ month = omega arith in
    rw same (days_of_months_more year month after)

year_counted : (days : ℕ) → IsCounted days_in_year before_year 1970 days (year_and_days days)
year_counted days = counted days_in_year before_year 1970 365 no_year_shorter years_sum (days / 365) 1970 days (omega arith) (omega arith)

month_counted : (year days : ℕ) → IsCounted (days_in_month year) (before_month year) 1 days (month_and_days year days)
month_counted year days = counted (days_in_month year) (before_month year) 1 28 (no_month_shorter year) (months_sum year) (days / 28) 1 days (omega arith) (omega arith)

none_before : (year : ℕ) → (before_year 1970 ≡ 0) × (before_month year 1 ≡ 0)
unfolding days_of_years days_of_months
none_before year = (refl, refl)

-- a day of the year lies in one of twelve months
month_bound : (year days : ℕ) → days < days_in_year year → (month_and_days year days).0 < 13
month_bound year days within =
    found_before (days_in_month year) (before_month year) 1 28 (no_month_shorter year) (months_sum year) 1 days 13 (month_and_days year days) (omega arith) (month_counted year days)
    (omega (arith, none_before year, days_of_months_all year))

year_bound : (days : ℕ) → days < 2932897 → (year_and_days days).0 < 10000
year_bound days early =
    found_before days_in_year before_year 1970 365 no_year_shorter years_sum 1970 days 10000 (year_and_days days) (omega arith) (year_counted days)
    (omega (arith, none_before 1970, days_of_years_closed 8030))

-- the parts that a second counts to
abbrev pub counted_parts : ℕ → Parts
counted_parts seconds =
    let days = seconds / 86400 in
    let year = year_and_days days in
    let month = month_and_days year.0 year.1 in
    let time = seconds % 86400 in
    record {
      year = year.0;
      mon = month.0;
      day = month.1 + 1;
      hour = time / 3600;
      min = time % 3600 / 60;
      sec = time % 60;
      wday = weekday days;
    }

days_counted : (days : ℕ) → let year = year_and_days days in let month = month_and_days year.0 year.1 in days_from_civil year.0 month.0 (month.1 + 1) ≡ days
days_counted days =
    let year = year_counted days in
    let month = month_counted (year_and_days days).0 (year_and_days days).1 in
    omega (arith, year.total, month.total, none_before (year_and_days days).0)

parts_valid : (seconds : ℕ) → seconds < 253402300800 → IsValid (counted_parts seconds)
parts_valid seconds early =
    let days = seconds / 86400 in
    let year = year_counted days in
    let month = month_counted (year_and_days days).0 (year_and_days days).1 in (
      ((year.later, omega (arith, year_bound days (omega arith))), (month.later, omega (arith, month_bound (year_and_days days).0 (year_and_days days).1 year.within)), (omega arith, omega (arith, month.within))),
      (omega arith, omega arith, omega arith),
      ap weekday (sym (days_counted days)),
    )

parts_are_seconds : (seconds : ℕ) → parts_secs (counted_parts seconds) ≡ seconds
parts_are_seconds seconds = rw (days_counted (seconds / 86400)) (omega arith)

back_from_one : (n : ℕ) → n + 1 - 1 ≡ n
back_from_one n = omega arith

text_of_parts : (moment : ℕ) → imf_fixdate (counted_parts (moment / 1000)) ≡ date_at moment
unfolding date_at
text_of_parts moment = simp (back_from_one, append_assoc) refl

-- the law
pub httpdates_text : DatesAreHttpdatesText
httpdates_text moment date early same =
    let seconds = moment / 1000 in
    date_text_is date (counted_parts seconds) (is_valid_complete _ (parts_valid seconds (omega arith))) (same ∙ sym (parts_are_seconds seconds)) ∙ text_of_parts moment

-- a name out of a list of names of three letters
three_letters : (names : List (List ℕ)) (n : ℕ) → list_all (λ name. length name == 3) names ≡ true → n < length names → length (slice_index_or names n []) ≡ 3
three_letters names n all inside = eqb-true _ _ (AllPass-from_list_all (λ name. length name == 3) names all n [] inside)

-- a date is 29 bytes long, also past the year 9999
pub length_of_date : (moment : ℕ) → length (date_at moment) ≡ 29
unfolding date_at
length_of_date moment =
    let days = moment / 1000 / 86400 in
    let year = year_and_days days in
    let month = month_and_days year.0 year.1 in
    let day_letters = three_letters day_names ((days + 3) % 7) refl (omega arith) in
    let month_letters = three_letters month_names (month.0 - 1) refl (omega (arith, month_bound year.0 year.1 (year_counted days).within)) in
    simp (length-append, day_letters, month_letters) refl
