-- The marks that a queue keeps beside its places, so that a place is found without a search. Own.
use Rattle.std.specs.Prelude.{◌≡◌, ℕ, ◌≤◌, ◌<◌, ◌^◌, Bool, false, List, [], ◌∷◌, length, count_by, slice_index_or}
use Rattle.cy_queue.specs.Queues.{holds}

-- none of these places stands twice
abbrev pub IsDistinct : List ℕ → Type 0
IsDistinct [] = Unit {0}
IsDistinct (n ∷ ns) = (holds ns n ≡ false) × IsDistinct ns

-- a place is marked exactly where it waits, and there is room for all places
pub record AreMarked (marks : List Bool) (waiting : List ℕ) (room : ℕ) : Type 0 where
  pub marked : (n : ℕ) → slice_index_or marks n false ≡ holds waiting n
  pub once : IsDistinct waiting
  pub counted : count_by (λ b. b) marks ≡ length waiting
  pub fits : length marks ≤ room
  pub few : length marks < 2 ^ 32
