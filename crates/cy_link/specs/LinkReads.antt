-- What a read of a connection may answer, what it adds to what was given, and when it counts a pause.
use Rattle.std.specs.Prelude.{◌≡◌, ◌≤◌, ℕ, List, take, Option}
use Rattle.std.specs.Io.KnownBytes.{Appends, Keeps}
use Rattle.cy_link.specs.declared.source.Read.{Read}
use Rattle.cy_link.specs.declared.source.Read.TheVariants.{Got, End, NotYet, Failed}
use Rattle.cy_link.specs.Causes.{Rose}

-- a read over a slice of this length gives some of it and at most all, or tells of the end, a pause or a fault
abbrev pub IsLinkRead : ℕ → Read → Type 0
IsLinkRead len (Got n) = (1 ≤ n) × (n ≤ len)
IsLinkRead len End = Unit {0}
IsLinkRead len NotYet = Unit {0}
IsLinkRead len Failed = Unit {0}

-- what was given grows by the bytes that now stand at the slice's front
abbrev pub ReadGives : Option (List ℕ) → Option (List ℕ) → List ℕ → Read → Type 0
ReadGives gave now into (Got n) = Appends gave now (take n into)
ReadGives gave now into End = Keeps gave now
ReadGives gave now into NotYet = Keeps gave now
ReadGives gave now into Failed = Keeps gave now

-- what the count of pauses does in a read: it stays, but where there is nothing to read yet
abbrev pub ReadPauses : ℕ → ℕ → Read → Type 0
ReadPauses before now (Got n) = now ≡ before
ReadPauses before now End = now ≡ before
ReadPauses before now NotYet = Rose before now
ReadPauses before now Failed = now ≡ before
