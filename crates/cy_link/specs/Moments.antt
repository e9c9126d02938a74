-- What a clock tells of the moments that it gave.
use Rattle.std.specs.Prelude.{◌≡◌, ◌-◌, ℕ, zero, suc, List, [], ◌∷◌, ◌++◌, Option, None, Some, length, min, slice_index_or}

-- a clock that still tells adds the moment that it gives; one that is silent stays so
abbrev pub Tells : Option (List ℕ) → Option (List ℕ) → ℕ → Type 0
Tells gave None moment = Unit {0}
Tells None (Some now) moment = ⊥
Tells (Some gave) (Some now) moment = now ≡ gave ++ moment ∷ []

-- the moment of one call, of which the first is 0: the list's, and after its end its last, and 0 of an empty list
abbrev pub moment_of : List ℕ → ℕ → ℕ
moment_of moments call = slice_index_or moments (min call (length moments - 1)) 0

-- the moments of so many calls
abbrev pub moments_of : List ℕ → ℕ → List ℕ
moments_of moments zero = []
moments_of moments (suc calls) = moments_of moments calls ++ moment_of moments calls ∷ []
