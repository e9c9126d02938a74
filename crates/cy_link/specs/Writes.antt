-- What a write to a sink may answer, and what it does.
use Rattle.std.specs.Prelude.{◌≡◌, ◌≤◌, ℕ, List, take, Option}
use Rattle.std.specs.Io.KnownBytes.{Appends, Keeps}
use Rattle.cy_link.specs.declared.sink.Write.{Write}
use Rattle.cy_link.specs.declared.sink.Write.TheVariants.{Took, NotYet, Failed}
use Rattle.cy_link.specs.Causes.{Rose}

-- an answer over this many bytes: some of them were taken and at most all, or a fault; a sink has no later
abbrev pub IsWriteOf : ℕ → Write → Type 0
IsWriteOf len (Took n) = (1 ≤ n) × (n ≤ len)
IsWriteOf len NotYet = ⊥
IsWriteOf len Failed = Unit {0}

-- what a sink holds grows by the bytes that were taken
abbrev pub WriteMoves : Option (List ℕ) → Option (List ℕ) → List ℕ → Write → Type 0
WriteMoves held now bytes (Took n) = Appends held now (take n bytes)
WriteMoves held now bytes NotYet = Keeps held now
WriteMoves held now bytes Failed = Keeps held now

-- what the count of faults does in a write: it stays, but where the write failed
abbrev pub WriteCounts : ℕ → ℕ → Write → Type 0
WriteCounts before now (Took n) = now ≡ before
WriteCounts before now NotYet = now ≡ before
WriteCounts before now Failed = Rose before now
