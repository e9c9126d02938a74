-- The two halves of sorting events: first all are noted and places are given, then the places that were given wait for
-- nothing.
use Rattle.std.specs.Prelude.{◌≡◌, ℕ, ◌<◌, Bool, false, ◌||◌, ◌&&◌, ◌==◌, not, if◌then◌else◌, List, [], ◌∷◌, length, slice_index_or}
use Rattle.cy_poll.specs.declared.kinds.Kinds.{Kinds}
use Rattle.cy_poll.specs.declared.kinds.Note.{Note}
use Rattle.cy_link.specs.declared.readiness.Ready.{Ready}
use Rattle.cy_poll.specs.Kinds.{no_kinds, with_kinds, without_kinds}
use Rattle.cy_poll.specs.Notes.{note_of}
use Rattle.cy_poll.specs.Sorts.{came}

-- a number is among these
abbrev pub holds : List ℕ → ℕ → Bool
holds [] n = false
holds (m ∷ ms) n = (m == n) || holds ms n

-- kinds that the place doesn't wait for are kept
abbrev pub keeping : Note → Kinds → Note
keeping n kinds = record { wanted = n.wanted; kept = with_kinds n.kept (without_kinds kinds n.wanted) }

-- events were noted, and each place waits as before
pub record AreNoted (old : List Note) (es : List Ready) (new : List Note) : Type 0 where
  pub places : length new ≡ length old
  pub each : (p : ℕ) → p < length old → note_of new p ≡ keeping (note_of old p) (came p es)

-- exactly these places are marked
pub record AreMarks (count : ℕ) (ns : List ℕ) (marks : List Bool) : Type 0 where
  pub places : length marks ≡ count
  pub each : (p : ℕ) → p < count → slice_index_or marks p false ≡ holds ns p

-- the place waits for nothing, and what is kept for it stays
abbrev pub idle : Note → Note
idle n = record { wanted = no_kinds; kept = n.kept }

-- these places wait for nothing, and the others as before
pub record HaveEnded (old : List Note) (ns : List ℕ) (new : List Note) : Type 0 where
  pub places : length new ≡ length old
  pub each : (p : ℕ) → p < length old → note_of new p ≡ (if holds ns p then idle (note_of old p) else note_of old p)

-- these places aren't marked, and the others as before
pub record AreCleared (old : List Bool) (ns : List ℕ) (new : List Bool) : Type 0 where
  pub places : length new ≡ length old
  pub each : (p : ℕ) → p < length old → slice_index_or new p false ≡ (slice_index_or old p false && not (holds ns p))
