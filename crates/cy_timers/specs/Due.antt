-- Which places are due, by the deadline of each place. Own.
use Rattle.std.specs.Prelude.{ℕ, ◌+◌, Bool, ◌&&◌, ◌||◌, ◌==◌, nat_lt, nat_le, if◌then◌else◌, Option, Some, None, List, [], ◌∷◌, map, filter}
use Rattle.cy_timers.specs.declared.timers.Timer.{Timer}

-- the places that have a deadline, each with it, where the first place has this number
abbrev pub timers_from : ℕ → List (Option ℕ) → List Timer
timers_from n [] = []
timers_from n (None ∷ deadlines) = timers_from (n + 1) deadlines
timers_from n (Some d ∷ deadlines) = record { deadline = d; place = n } ∷ timers_from (n + 1) deadlines

-- by deadline and then place
abbrev pub is_before : Timer → Timer → Bool
is_before a b = nat_lt a.deadline b.deadline || ((a.deadline == b.deadline) && nat_lt a.place b.place)

-- a timer put before the first that isn't before it
abbrev pub put_timer : Timer → List Timer → List Timer
put_timer t [] = t ∷ []
put_timer t (u ∷ us) = let rest = put_timer t us in if is_before u t then u ∷ rest else t ∷ u ∷ us

abbrev pub in_order : List Timer → List Timer
in_order [] = []
in_order (t ∷ ts) = put_timer t (in_order ts)

abbrev pub is_due : ℕ → Timer → Bool
is_due now t = nat_le t.deadline now

-- the places whose deadline is at most now, by deadline and then place
abbrev pub due : List (Option ℕ) → ℕ → List ℕ
due deadlines now = map (λ t. t.place) (filter (is_due now) (in_order (timers_from 0 deadlines)))
