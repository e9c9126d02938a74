-- What a latch is asked over time, and what its count then is. The newest comes first. Own.
use Rattle.std.specs.Prelude.{◌≡◌, ℕ, ◌+◌, ◌≤◌, ◌<◌, Bool, true, false, ◌==◌, if◌then◌else◌, IsTrue, List, [], ◌∷◌, length, replicate, slice_set}
use Rattle.cy_latch.specs.Numbers.{IsDistinct, after_leave, count_out, holds, is_out}

-- one call: a number was drawn, none was to be had, or one was left
pub data Turn : Type 0 where
  entered : ℕ → Turn
  was_full : Turn
  left : ℕ → Turn

-- What a call makes of the numbers: one that wasn't out is drawn, or all are out and stay so; or a number is left.
abbrev pub IsTurn : List Bool → Turn → List Bool → Type 0
IsTurn old (entered n) new = (n < length old) × (is_out old n ≡ false) × (new ≡ slice_set old n true)
IsTurn old was_full new = (count_out old ≡ length old) × (new ≡ old)
IsTurn old (left n) new = new ≡ after_leave old n

-- these numbers are what these calls leave of a new latch with this limit
abbrev pub IsRun : ℕ → List Turn → List Bool → Type 0
IsRun limit [] numbers = numbers ≡ replicate limit false
IsRun limit (t ∷ before) numbers = (old : List Bool) × IsRun limit before old × IsTurn old t numbers

-- ---- the shares

-- the list without this number, where it stands first
abbrev pub without : ℕ → List ℕ → List ℕ
without n [] = []
without n (m ∷ ms) = if m == n then ms else m ∷ without n ms

-- the numbers of the shares that were given out and not left
abbrev pub given : List Turn → List ℕ
given [] = []
given (entered n ∷ before) = n ∷ given before
given (was_full ∷ before) = given before
given (left n ∷ before) = without n (given before)

-- how many shares were given out, and how many were left
abbrev pub entered_count : List Turn → ℕ
entered_count [] = 0
entered_count (entered n ∷ before) = entered_count before + 1
entered_count (was_full ∷ before) = entered_count before
entered_count (left n ∷ before) = entered_count before

abbrev pub left_count : List Turn → ℕ
left_count [] = 0
left_count (entered n ∷ before) = left_count before
left_count (was_full ∷ before) = left_count before
left_count (left n ∷ before) = left_count before + 1

-- each share that was left had been given out, and not been left since
abbrev pub EachCame : List Turn → Type 0
EachCame [] = Unit {0}
EachCame (entered n ∷ before) = EachCame before
EachCame (was_full ∷ before) = EachCame before
EachCame (left n ∷ before) = IsTrue (holds (given before) n) × EachCame before

-- ---- the law

-- what holds after some calls
pub record CountsItsShares (limit : ℕ) (turns : List Turn) (numbers : List Bool) : Type 0 where
  pub once : IsDistinct (given turns)
  pub out : (n : ℕ) → is_out numbers n ≡ holds (given turns) n
  pub limited : count_out numbers ≤ limit
  pub counted : count_out numbers ≡ length (given turns)
  pub balanced : EachCame turns → count_out numbers + left_count turns ≡ entered_count turns

abbrev pub LatchCountsItsShares : Type 0
LatchCountsItsShares = (limit : ℕ) (turns : List Turn) (numbers : List Bool) → IsRun limit turns numbers → CountsItsShares limit turns numbers
