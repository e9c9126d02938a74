-- What joins the text of a moment's date to the kit's.
use Rattle.std.specs.Prelude.{◌≡◌, ℕ, ◌/◌, ◌≤◌}
use Rattle.httpdate.specs.declared.date.HttpDate.{HttpDate}
use Rattle.httpdate.specs.Date.{unix_secs, date_text}
use Rattle.cy_event.specs.declared.limits.TheConstants.{GREATEST_MOMENT}
use Rattle.cy_event.specs.Dates.{date_at}

-- up to the greatest moment, a date that falls in the second of a moment is written as the moment's date
abbrev pub DatesAreHttpdatesText : Type 0
DatesAreHttpdatesText =
    (moment : ℕ) (date : HttpDate) → moment ≤ GREATEST_MOMENT → unix_secs date ≡ moment / 1000
    → date_text date ≡ date_at moment
