-- A step made again and again, until it no longer applies.
use Rattle.std.specs.Prelude.{ℕ, zero, suc, Option, Some, None}

-- at most n times
abbrev pub until_none : {S : Type 0} → (S → Option S) → ℕ → S → S
until_none f zero s = s
until_none f (suc n) s = elim (f s) [ None ↦ s | Some r ↦ until_none f n r ]
