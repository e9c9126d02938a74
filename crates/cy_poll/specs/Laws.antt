-- Laws of the table of interests. Each is the contract of a public function without a body.
use Rattle.std.specs.Prelude.{◌≡◌, ◌⊎◌, ℕ, ◌<◌, Bool, false, ◌||◌, ◌&&◌, IsTrue, List, [], ◌∷◌, ◌++◌}
use Rattle.cy_link.specs.declared.readiness.Ready.{Ready}
use Rattle.cy_poll.specs.declared.kinds.Kinds.{Kinds}
use Rattle.cy_poll.specs.declared.kinds.Note.{Note}
use Rattle.cy_poll.specs.Kinds.{meets}
use Rattle.cy_poll.specs.Notes.{note_of}
use Rattle.cy_poll.specs.Noting.{holds}
use Rattle.cy_poll.specs.Sorts.{came}
use Rattle.cy_poll.specs.Runs.{IsRun, Kind, Turn, asked, has, is_settled, is_untold, reading, sorted, wanted, writing}

-- After any calls, an event of a kind that came for a place of the table is still kept for that place, or the place was
-- told of the kind by that call or a later one, or was forgotten since.
abbrev pub NoEventIsLost : Type 0
NoEventIsLost =
    (size : ℕ) (after before : List Turn) (es : List Ready) (places : List ℕ) (notes : List Note) (p : ℕ) (k : Kind)
    → IsRun size (after ++ sorted es places ∷ before) notes
    → p < size
    → IsTrue (has (came p es) k)
    → IsTrue (has (note_of notes p).kept k) ⊎ IsTrue (is_settled (after ++ sorted es places ∷ []) before p k)

-- what is kept after some calls: exactly what came, and wasn't told nor forgotten since; and never a kind that is waited for
pub record KeepsUntold (size : ℕ) (turns : List Turn) (notes : List Note) : Type 0 where
  pub kept : (p : ℕ) (k : Kind) → p < size → has (note_of notes p).kept k ≡ is_untold turns p k
  pub waits : (p : ℕ) → p < size → (note_of notes p).wanted ≡ asked turns p
  pub apart : (p : ℕ) (k : Kind) → p < size → (has (note_of notes p).kept k && has (note_of notes p).wanted k) ≡ false

abbrev pub WhatIsKeptIsUntold : Type 0
WhatIsKeptIsUntold = (size : ℕ) (turns : List Turn) (notes : List Note) → IsRun size turns notes → KeepsUntold size turns notes

-- A place that asks is told yes exactly where an event of a kind for which it asks came before, and it wasn't told of that
-- kind nor forgotten since. So no event is missed, and none is told twice.
abbrev pub WantMissesNothing : Type 0
WantMissesNothing =
    (size : ℕ) (before : List Turn) (p : ℕ) (kinds : Kinds) (told : Bool) (notes : List Note)
    → IsRun size (wanted p kinds told ∷ before) notes
    → told ≡ ((is_untold before p reading && kinds.read) || (is_untold before p writing && kinds.write))

-- none of these numbers stands twice
abbrev pub IsDistinct : List ℕ → Type 0
IsDistinct [] = Unit {0}
IsDistinct (n ∷ ns) = (holds ns n ≡ false) × IsDistinct ns

-- the places that events give: each once, and exactly those of the table that wait for a kind of one of their events
pub record GivesWhoWaits (size : ℕ) (before : List Turn) (es : List Ready) (places : List ℕ) : Type 0 where
  pub once : IsDistinct places
  pub below : (p : ℕ) → IsTrue (holds places p) → p < size
  pub exact : (p : ℕ) → p < size → holds places p ≡ meets (asked before p) (came p es)

abbrev pub EventsGiveWhoWaits : Type 0
EventsGiveWhoWaits =
    (size : ℕ) (before : List Turn) (es : List Ready) (places : List ℕ) (notes : List Note)
    → IsRun size (sorted es places ∷ before) notes
    → GivesWhoWaits size before es places
