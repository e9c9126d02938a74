-- What a write to a connection may answer, and when it counts a pause.
use Rattle.std.specs.Prelude.{◌≡◌, ◌≤◌, ℕ}
use Rattle.cy_link.specs.declared.sink.Write.{Write}
use Rattle.cy_link.specs.declared.sink.Write.TheVariants.{Took, NotYet, Failed}
use Rattle.cy_link.specs.Causes.{Rose}

-- a write of this many bytes takes some of them and at most all, or tells of a pause or a fault
abbrev pub IsLinkWrite : ℕ → Write → Type 0
IsLinkWrite len (Took n) = (1 ≤ n) × (n ≤ len)
IsLinkWrite len NotYet = Unit {0}
IsLinkWrite len Failed = Unit {0}

-- what the count of pauses does in a write: it stays, but where nothing can be taken yet
abbrev pub WritePauses : ℕ → ℕ → Write → Type 0
WritePauses before now (Took n) = now ≡ before
WritePauses before now NotYet = Rose before now
WritePauses before now Failed = now ≡ before
