-- What was read or written in a call that failed or came to its end, over sources and sinks that tell.
use Rattle.std.specs.Prelude.{◌≤◌, ℕ, List, length, take, Option}
use Rattle.std.specs.Io.KnownBytes.{Consumes, IsAtEnd, Appends}

-- these bytes are all that a source had left, and it has nothing left now
abbrev pub ReadsAll : Option (List ℕ) → Option (List ℕ) → List ℕ → Type 0
ReadsAll left now bytes = Consumes left now bytes × IsAtEnd now

-- a source lost the front of what it had left, and this holds of how many bytes that are
abbrev pub WasRead : (ℕ → Type 0) → Option (List ℕ) → Option (List ℕ) → Type 0
WasRead P left now = (bytes : List ℕ) × Consumes left now bytes × P (length bytes)

-- what a sink holds grew by a front of this text
abbrev pub WritesFront : Option (List ℕ) → Option (List ℕ) → List ℕ → Type 0
WritesFront held now text = (n : ℕ) × (n ≤ length text) × Appends held now (take n text)
