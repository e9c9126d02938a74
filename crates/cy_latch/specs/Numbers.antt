-- A latch, seen as the list of its numbers: for each number below the limit, whether it is out. Own.
use Rattle.std.specs.Prelude.{◌≡◌, ℕ, Bool, false, ◌||◌, ◌==◌, if◌then◌else◌, List, [], ◌∷◌, slice_index_or, slice_set, count_by}

-- whether a number is out; one that isn't below the limit never is
abbrev pub is_out : List Bool → ℕ → Bool
is_out numbers n = slice_index_or numbers n false

-- how many are out
abbrev pub count_out : List Bool → ℕ
count_out numbers = count_by (λ b. b) numbers

-- the number is no longer out; where it wasn't, nothing changes
abbrev pub after_leave : List Bool → ℕ → List Bool
after_leave old n = if is_out old n then slice_set old n false else old

-- whether a number is among these
abbrev pub holds : List ℕ → ℕ → Bool
holds [] n = false
holds (m ∷ ms) n = (m == n) || holds ms n

-- none of these numbers stands twice
abbrev pub IsDistinct : List ℕ → Type 0
IsDistinct [] = Unit {0}
IsDistinct (n ∷ ns) = (holds ns n ≡ false) × IsDistinct ns
