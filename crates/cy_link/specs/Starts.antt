-- When work is handed back.
use Rattle.std.specs.Prelude.{◌≡◌, ℕ, Option, None, Some}
use Rattle.cy_link.specs.Causes.{Rose}

-- what the count of faults does as work is started: it stays, but where the work is handed back
abbrev pub StartCounts : {W : Type 0} → ℕ → ℕ → Option W → Type 0
StartCounts before now None = now ≡ before
StartCounts before now (Some work) = Rose before now
