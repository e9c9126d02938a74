-- What a clock in memory shows.
use Rattle.std.specs.Prelude.{◌-◌, ◌^◌, ℕ, List, Option, None, Some, cond, nat_lt}
use Rattle.cy_link.specs.Moments.{moments_of}
use Rattle.cy_link.specs.declared.list_clock.ListClock.{ListClock}

-- the moments of its list
abbrev pub clock_moments : ListClock → List ℕ
clock_moments c = c.moments.items

-- how often it was asked
abbrev pub clock_calls : ListClock → ℕ
clock_calls c = c.calls

-- the moments that it gave, as long as it counts its calls
abbrev pub clock_gave : ListClock → Option (List ℕ)
clock_gave c = cond (nat_lt c.calls (2 ^ 64 - 1)) (Some (moments_of c.moments.items c.calls)) None
