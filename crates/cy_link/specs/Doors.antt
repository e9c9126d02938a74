-- What opening a port and accepting a connection do.
use Rattle.std.specs.Prelude.{◌≡◌, [], ◌∷◌, ℕ, List, Option}
use Rattle.std.specs.Io.KnownBytes.{Appends, Keeps}
use Rattle.cy_link.specs.declared.door.Opened.{Opened}
use Rattle.cy_link.specs.declared.door.Opened.TheVariants.{Port, Failed}
use Rattle.cy_link.specs.Causes.{Rose}

-- the ports answered grow by the one that was opened
abbrev pub OpenMoves : Option (List ℕ) → Option (List ℕ) → Opened → Type 0
OpenMoves ports now (Port port) = Appends ports now (port ∷ [])
OpenMoves ports now Failed = Keeps ports now

-- what the count of faults does as a port is opened: it stays, but where that failed
abbrev pub OpenCounts : ℕ → ℕ → Opened → Type 0
OpenCounts before now (Port port) = now ≡ before
OpenCounts before now Failed = Rose before now
