-- The Date field's text of a moment (RFC 9110, section 5.6.7): the calendar counted from 1 January 1970, a Thursday.
use Rattle.std.specs.Prelude.{ℕ, zero, suc, ◌+◌, ◌-◌, ◌/◌, ◌%◌, Bool, not, ◌&&◌, ◌||◌, ◌==◌, nat_lt, if◌then◌else◌, List, [], ◌∷◌, ◌++◌, slice_index_or, codes}

-- the Gregorian rule
abbrev pub is_leap_year : ℕ → Bool
is_leap_year year = (year % 4 == 0) && (not (year % 100 == 0) || (year % 400 == 0))

-- the days of a year
abbrev pub days_in_year : ℕ → ℕ
days_in_year year = if is_leap_year year then 366 else 365

-- thirty days have September, April, June and November
abbrev pub days_in_month : ℕ → ℕ → ℕ
days_in_month year month =
    if month == 2 then (if is_leap_year year then 29 else 28)
    else (if (month == 4) || (month == 6) || (month == 9) || (month == 11) then 30 else 31)

-- Counts whole years or months off, from the first on, while days are left for one, but at most n:
-- the one in which the days end, and the days over.
unfoldable pub count_off : (ℕ → ℕ) → ℕ → ℕ → ℕ → ℕ × ℕ
count_off length_of zero first days = (first, days)
count_off length_of (suc n) first days =
    if nat_lt days (length_of first) then (first, days)
    else count_off length_of n (first + 1) (days - length_of first)

-- the year that is so many days after 1970 began, and the days before in that year; no year is shorter than 365 days
abbrev pub year_and_days : ℕ → ℕ × ℕ
year_and_days days = count_off days_in_year (days / 365) 1970 days

-- the month that is so many days after the year began, and the days before in that month; no month is shorter than 28 days
abbrev pub month_and_days : ℕ → ℕ → ℕ × ℕ
month_and_days year days = count_off (days_in_month year) (days / 28) 1 days

-- the first three letters of each day of the week
abbrev pub day_names : List (List ℕ)
day_names =
    codes "Mon" ∷ codes "Tue" ∷ codes "Wed" ∷ codes "Thu" ∷ codes "Fri" ∷ codes "Sat"
    ∷ codes "Sun" ∷ []

-- the first three letters of each month
abbrev pub month_names : List (List ℕ)
month_names =
    codes "Jan" ∷ codes "Feb" ∷ codes "Mar" ∷ codes "Apr" ∷ codes "May" ∷ codes "Jun"
    ∷ codes "Jul" ∷ codes "Aug" ∷ codes "Sep" ∷ codes "Oct" ∷ codes "Nov" ∷ codes "Dec" ∷ []

-- the name of the day that is so many days after a Thursday
abbrev pub day_name : ℕ → List ℕ
day_name days = slice_index_or day_names ((days + 3) % 7) []

-- the name of a month, January being 1
abbrev pub month_name : ℕ → List ℕ
month_name month = slice_index_or month_names (month - 1) []

-- a number below 100, in two digits
abbrev pub two_digits : ℕ → List ℕ
two_digits n = (48 + n / 10) ∷ (48 + n % 10) ∷ []

-- a number below 10000, in four digits
abbrev pub four_digits : ℕ → List ℕ
four_digits n = two_digits (n / 100) ++ two_digits (n % 100)

-- `06 Nov 1994`, so many days after 1970 began
abbrev pub day_text : ℕ → List ℕ
day_text days =
    let year = year_and_days days in
    let month = month_and_days year.0 year.1 in
    two_digits (month.1 + 1) ++ codes " " ++ month_name month.0 ++ codes " " ++ four_digits year.0

-- `08:49:37`, so many seconds after the day began
abbrev pub time_text : ℕ → List ℕ
time_text seconds =
    two_digits (seconds / 3600) ++ codes ":" ++ two_digits (seconds % 3600 / 60) ++ codes ":"
    ++ two_digits (seconds % 60)

-- `Sun, 06 Nov 1994 08:49:37 GMT`, so many milliseconds after 1970 began
unfoldable pub date_at : ℕ → List ℕ
date_at moment =
    let seconds = moment / 1000 in
    let days = seconds / 86400 in
    day_name days ++ codes ", " ++ day_text days ++ codes " " ++ time_text (seconds % 86400)
    ++ codes " GMT"
