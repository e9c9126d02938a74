-- What events do to places: which are given, and what is noted afterwards. Own.
use Rattle.std.specs.Prelude.{◌≡◌, ℕ, ◌<◌, Bool, ◌==◌, not, if◌then◌else◌, List, [], ◌∷◌, length, map, filter}
use Rattle.cy_poll.specs.declared.kinds.Kinds.{Kinds}
use Rattle.cy_poll.specs.declared.kinds.Note.{Note}
use Rattle.cy_link.specs.declared.readiness.Ready.{Ready}
use Rattle.cy_poll.specs.Kinds.{kinds_in, meets, no_kinds, with_kinds, without_kinds}
use Rattle.cy_poll.specs.Notes.{note_of}

-- the kinds of all events of a place
abbrev pub came : ℕ → List Ready → Kinds
came place [] = no_kinds
came place (e ∷ es) = if e.place == place then with_kinds (kinds_in e) (came place es) else came place es

-- Kinds that a place waits for are given to it, and then it waits for nothing; the other kinds are kept.
abbrev pub after_events : Note → Kinds → Note
after_events n kinds = record {
  wanted = if meets n.wanted kinds then no_kinds else n.wanted;
  kept = with_kinds n.kept (without_kinds kinds n.wanted);
}

-- each number once, where it stands first
abbrev pub firsts : List ℕ → List ℕ
firsts [] = []
firsts (n ∷ ns) = n ∷ filter (λ m. not (m == n)) (firsts ns)

-- the event is of a kind for which its place waits
abbrev pub is_wanted : List Note → Ready → Bool
is_wanted notes e = meets (note_of notes e.place).wanted (kinds_in e)

-- the places of events that are wanted, each once, in the order of the first such events
abbrev pub given : List Note → List Ready → List ℕ
given notes es = firsts (map (λ e. e.place) (filter (is_wanted notes) es))

-- what is noted of each place after these events
pub record AreSorted (old : List Note) (es : List Ready) (new : List Note) : Type 0 where
  pub places : length new ≡ length old
  pub each : (p : ℕ) → p < length old → note_of new p ≡ after_events (note_of old p) (came p es)
