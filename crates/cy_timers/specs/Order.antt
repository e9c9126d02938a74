-- The order of timers in a queue, and the rank of a timer there. Own.
use Rattle.std.specs.Prelude.{◌≡◌, ℕ, ◌-◌, ◌≤◌, true, false, nat_lt, if◌then◌else◌, List, [], ◌∷◌, length, insert, remove}
use Rattle.std.specs.List.{AllWithin}
use Rattle.cy_timers.specs.declared.timers.Timer.{Timer}
use Rattle.cy_timers.specs.Due.{is_before}

-- a timer comes before each of these
abbrev pub IsAhead : Timer → List Timer → Type 0
IsAhead t [] = Unit {0}
IsAhead t (u ∷ us) = (is_before t u ≡ true) × IsAhead t us

-- each comes before those behind it
abbrev pub AreInOrder : List Timer → Type 0
AreInOrder [] = Unit {0}
AreInOrder (t ∷ ts) = IsAhead t ts × AreInOrder ts

-- so many come before this timer, and those behind don't
pub record IsRank (t : Timer) (queue : List Timer) (rank : ℕ) : Type 0 where
  pub within : rank ≤ length queue
  pub front : AllWithin (λ u. is_before u t ≡ true) queue 0 rank
  pub back : AllWithin (λ u. is_before u t ≡ false) queue rank (length queue)

-- the queue after the timer at `from` was taken out and this one put in, which had this rank before
abbrev pub moved : List Timer → ℕ → ℕ → Timer → List Timer
moved queue from to t = insert (remove queue from) (if nat_lt from to then to - 1 else to) t
