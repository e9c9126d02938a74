-- What an acceptor and the connections that it let in do to the latch over time. The newest comes first. Own.
use Rattle.std.specs.Prelude.{◌≡◌, ℕ, ◌+◌, ◌<◌, Bool, true, false, IsTrue, List, [], ◌∷◌, length, replicate, slice_set}
use Rattle.cy_latch.specs.Numbers.{after_leave, count_out, holds, is_out}
use Rattle.cy_latch.specs.Runs.{without}
use Rattle.cy_accept.specs.declared.accept.Step1.{Step1}
use Rattle.cy_accept.specs.declared.accept.Step1.TheVariants.{In, NotYet, Full, Failed}

-- One call: a connection came in, with the share of this number; none came; the latch was full, with this count; or a
-- connection left its share.
pub data Turn : Type 0 where
  came : ℕ → Turn
  none_came : Turn
  was_full : ℕ → Turn
  left : ℕ → Turn

-- the turn that a step's answer tells of
abbrev pub turn_of : {L : Type 0} → Step1 L → Turn
turn_of (In link share) = came share
turn_of NotYet = none_came
turn_of (Full count) = was_full count
turn_of Failed = none_came

-- What a call makes of the latch's numbers: one that wasn't out is drawn where a connection comes; where none comes, or
-- all are out, they stay; and a number is left.
abbrev pub IsTurn : List Bool → Turn → List Bool → Type 0
IsTurn old (came n) new = (n < length old) × (is_out old n ≡ false) × (new ≡ slice_set old n true)
IsTurn old none_came new = new ≡ old
IsTurn old (was_full count) new = (count_out old ≡ length old) × (count ≡ length old) × (new ≡ old)
IsTurn old (left n) new = new ≡ after_leave old n

-- these numbers are what these calls leave of a new latch with this limit
abbrev pub IsRun : ℕ → List Turn → List Bool → Type 0
IsRun limit [] numbers = numbers ≡ replicate limit false
IsRun limit (t ∷ before) numbers = (old : List Bool) × IsRun limit before old × IsTurn old t numbers

-- the shares of the connections that came and haven't left
abbrev pub shares_in : List Turn → List ℕ
shares_in [] = []
shares_in (came n ∷ before) = n ∷ shares_in before
shares_in (none_came ∷ before) = shares_in before
shares_in (was_full count ∷ before) = shares_in before
shares_in (left n ∷ before) = without n (shares_in before)

-- how many connections came, and how many left
abbrev pub came_count : List Turn → ℕ
came_count [] = 0
came_count (came n ∷ before) = came_count before + 1
came_count (none_came ∷ before) = came_count before
came_count (was_full count ∷ before) = came_count before
came_count (left n ∷ before) = came_count before

abbrev pub left_count : List Turn → ℕ
left_count [] = 0
left_count (came n ∷ before) = left_count before
left_count (none_came ∷ before) = left_count before
left_count (was_full count ∷ before) = left_count before
left_count (left n ∷ before) = left_count before + 1

-- each connection that left had come, and not left since
abbrev pub EachCame : List Turn → Type 0
EachCame [] = Unit {0}
EachCame (came n ∷ before) = EachCame before
EachCame (none_came ∷ before) = EachCame before
EachCame (was_full count ∷ before) = EachCame before
EachCame (left n ∷ before) = IsTrue (holds (shares_in before) n) × EachCame before
