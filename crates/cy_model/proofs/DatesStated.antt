-- Dates that the standard and the calendar give, so that a wrong rule of the definitions does not check.
use Rattle.std.proofs.Common.{◌≡◌, codes, refl}
use Rattle.cy_event.specs.Dates.{date_at, count_off}

-- the first second of 1970
pub first_second : date_at 0 ≡ codes "Thu, 01 Jan 1970 00:00:00 GMT"
unfolding date_at count_off
first_second = refl

-- the example of RFC 9110, section 5.6.7
pub standards_example : date_at 784111777000 ≡ codes "Sun, 06 Nov 1994 08:49:37 GMT"
unfolding date_at count_off
standards_example = refl

-- a leap day, in a year that 400 divides
pub leap_day : date_at 951782400000 ≡ codes "Tue, 29 Feb 2000 00:00:00 GMT"
unfolding date_at count_off
leap_day = refl

-- the last millisecond of 9999
pub last_second : date_at 253402300799999 ≡ codes "Fri, 31 Dec 9999 23:59:59 GMT"
unfolding date_at count_off
last_second = refl
