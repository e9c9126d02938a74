-- What a read of a source may answer, and what it does.
use Rattle.std.specs.Prelude.{◌≡◌, ◌≤◌, ℕ, List, take, drop, Option, IfSome}
use Rattle.std.specs.Io.KnownBytes.{Consumes, Keeps, IsAtEnd}
use Rattle.cy_link.specs.declared.source.Read.{Read}
use Rattle.cy_link.specs.declared.source.Read.TheVariants.{Got, End, NotYet, Failed}
use Rattle.cy_link.specs.Causes.{Rose}

-- an answer over a slice of this length: some of it and at most all, or the end, or a fault; a source has no later
abbrev pub IsReadOf : ℕ → Read → Type 0
IsReadOf len (Got n) = (1 ≤ n) × (n ≤ len)
IsReadOf len End = Unit {0}
IsReadOf len NotYet = ⊥
IsReadOf len Failed = Unit {0}

-- what a source has left loses the bytes that now stand at the slice's front, and at the end nothing is left
abbrev pub ReadMoves : Option (List ℕ) → Option (List ℕ) → List ℕ → Read → Type 0
ReadMoves left now into (Got n) = Consumes left now (take n into)
ReadMoves left now into End = Keeps left now × IsAtEnd now
ReadMoves left now into NotYet = Keeps left now
ReadMoves left now into Failed = Keeps left now

-- the rest of the slice stays, for a source that tells what it has left
abbrev pub ReadLeaves : Option (List ℕ) → List ℕ → List ℕ → Read → Type 0
ReadLeaves left before after (Got n) = IfSome left (λ _. drop n after ≡ drop n before)
ReadLeaves left before after End = IfSome left (λ _. after ≡ before)
ReadLeaves left before after NotYet = IfSome left (λ _. after ≡ before)
ReadLeaves left before after Failed = IfSome left (λ _. after ≡ before)

-- what the count of faults does in a read: it stays, but where the read failed
abbrev pub ReadCounts : ℕ → ℕ → Read → Type 0
ReadCounts before now (Got n) = now ≡ before
ReadCounts before now End = now ≡ before
ReadCounts before now NotYet = now ≡ before
ReadCounts before now Failed = Rose before now
