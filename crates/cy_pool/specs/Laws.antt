-- What a pool is asked over time, and where each number then is. The newest call comes first. Own.
use Rattle.std.specs.Prelude.{◌≡◌, ℕ, zero, suc, ◌+◌, List, [], ◌∷◌, ◌++◌, Option, None, Some, slice_index_or, slice_set}
use Rattle.std.specs.List.{sum_by}
use Rattle.cy_pool.specs.Rule.{times, has, once_below}

-- one call, of a seat by its number: it takes or gives; a seat is made; or one is joined, which has no slip
pub data Turn : Type 0 where
  took : ℕ → Turn
  gave : ℕ → Turn
  split : Turn
  joined : ℕ → Turn

-- the numbers in the pool, and the slip of each seat
pub record Shelf : Type 0 where
  pub items : List ℕ
  pub slips : List (Option ℕ)

abbrev pub shelf : List ℕ → List (Option ℕ) → Shelf
shelf items slips = record { items = items; slips = slips }

-- the numbers below one
abbrev pub below : ℕ → List ℕ
below zero = []
below (suc n) = below n ++ n ∷ []

-- a seat without a slip takes the first number, where there is one
abbrev pub after_take : List ℕ → List (Option ℕ) → ℕ → Option ℕ → Shelf
after_take [] slips seat slip = shelf [] slips
after_take (x ∷ items) slips seat None = shelf items (slice_set slips seat (Some x))
after_take (x ∷ items) slips seat (Some y) = shelf (x ∷ items) slips

-- a slip's number goes back to the end
abbrev pub after_give : List ℕ → List (Option ℕ) → ℕ → Option ℕ → Shelf
after_give items slips seat None = shelf items slips
after_give items slips seat (Some x) = shelf (items ++ x ∷ []) (slice_set slips seat None)

abbrev pub after : Shelf → Turn → Shelf
after s (took seat) = after_take s.items s.slips seat (slice_index_or s.slips seat (Some 0))
after s (gave seat) = after_give s.items s.slips seat (slice_index_or s.slips seat None)
after s split = shelf s.items (s.slips ++ None ∷ [])
after s (joined seat) = s

-- where the numbers are after these calls of a new pool of so many numbers
abbrev pub shelf_after : ℕ → List Turn → Shelf
shelf_after slots [] = shelf (below slots) []
shelf_after slots (t ∷ before) = after (shelf_after slots before) t

-- Each number of the pool is in it or in one slip, never in both and never twice; and no other number is.
abbrev pub EachNumberOnce : Type 0
EachNumberOnce = (slots : ℕ) (turns : List Turn) (x : ℕ)
    → times x (shelf_after slots turns).items + sum_by (has x) (shelf_after slots turns).slips ≡ once_below x slots
