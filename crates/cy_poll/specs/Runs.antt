-- What a table of interests is asked over time, and what it then owes. The newest comes first. Own.
use Rattle.std.specs.Prelude.{◌≡◌, ℕ, ◌<◌, Bool, false, ◌||◌, ◌&&◌, ◌==◌, not, if◌then◌else◌, List, [], ◌∷◌, ◌++◌, length, replicate, slice_set}
use Rattle.cy_link.specs.declared.readiness.Ready.{Ready}
use Rattle.cy_poll.specs.declared.kinds.Kinds.{Kinds}
use Rattle.cy_poll.specs.declared.kinds.Note.{Note}
use Rattle.cy_poll.specs.Kinds.{meets, no_kinds}
use Rattle.cy_poll.specs.Notes.{after_want, no_note, note_of}
use Rattle.cy_poll.specs.Noting.{holds}
use Rattle.cy_poll.specs.Sorts.{AreSorted, came, given}

-- One call: a place asked for kinds, and was told at once that one is kept for it or not; a place was forgotten; or events
-- came, and these places were given.
pub data Turn : Type 0 where
  wanted : ℕ → Kinds → Bool → Turn
  forgotten : ℕ → Turn
  sorted : List Ready → List ℕ → Turn

-- what a call answers, and what is noted after it
abbrev pub IsTurn : List Note → Turn → List Note → Type 0
IsTurn old (wanted place kinds told) new =
    (place < length old)
    × (told ≡ meets (note_of old place).kept kinds)
    × (new ≡ slice_set old place (after_want (note_of old place) kinds))
IsTurn old (forgotten place) new = (place < length old) × (new ≡ slice_set old place no_note)
IsTurn old (sorted es places) new = (places ≡ given old es) × AreSorted old es new

-- this is noted after these calls of a new table
abbrev pub IsRun : ℕ → List Turn → List Note → Type 0
IsRun size [] notes = notes ≡ replicate size no_note
IsRun size (t ∷ before) notes = (old : List Note) × IsRun size before old × IsTurn old t notes

-- ---- what was asked and told

pub data Kind : Type 0 where
  reading : Kind
  writing : Kind

-- a kind is among these
abbrev pub has : Kinds → Kind → Bool
has kinds reading = kinds.read
has kinds writing = kinds.write

-- The kinds that a place waits for: those for which it asked last, unless it was told then or since, or forgotten since.
abbrev pub asked : List Turn → ℕ → Kinds
asked [] p = no_kinds
asked (wanted q kinds told ∷ before) p = if q == p then (if told then no_kinds else kinds) else asked before p
asked (forgotten q ∷ before) p = if q == p then no_kinds else asked before p
asked (sorted es places ∷ before) p = if holds places p then no_kinds else asked before p

-- an event of this kind comes for the place
abbrev pub brings : Turn → ℕ → Kind → Bool
brings (wanted q kinds told) p k = false
brings (forgotten q) p k = false
brings (sorted es places) p k = has (came p es) k

-- The place is told of this kind: it asked for it and the answer was yes, or it waited for it and was given.
abbrev pub tells : Turn → List Turn → ℕ → Kind → Bool
tells (wanted q kinds told) before p k = (q == p) && (told && has kinds k)
tells (forgotten q) before p k = false
tells (sorted es places) before p k = holds places p && has (asked before p) k

-- the place is forgotten
abbrev pub forgets : Turn → ℕ → Bool
forgets (wanted q kinds told) p = false
forgets (forgotten q) p = q == p
forgets (sorted es places) p = false

-- an event of this kind came for the place, and since then the place was neither told of the kind nor forgotten
abbrev pub is_untold : List Turn → ℕ → Kind → Bool
is_untold [] p k = false
is_untold (t ∷ before) p k = ((is_untold before p k || brings t p k) && not (tells t before p k)) && not (forgets t p)

-- in one of the calls after those before, the place was told of the kind or forgotten
abbrev pub is_settled : List Turn → List Turn → ℕ → Kind → Bool
is_settled [] before p k = false
is_settled (t ∷ after) before p k = (tells t (after ++ before) p k || forgets t p) || is_settled after before p k
