-- The legal runs of one connection.
use Rattle.std.specs.Prelude.{◌≡◌, ◌≤◌, ◌↔◌, ℕ, List, [], ◌∷◌, map}
use Rattle.cy_event.specs.declared.limits.Limits.{Limits}
use Rattle.cy_map.specs.declared.rule.Rule.{Rule}
use Rattle.cy_model.specs.Entries.{Entry, opening, trace_of, reply_to}
use Rattle.cy_model.specs.Replies.{Replied}

-- an entry with its moment, and what it was answered
pub record Answered : Type 0 where
  pub moment : ℕ
  pub entry : Entry
  pub reply : Replied

abbrev pub entry_of : Answered → ℕ × Entry
entry_of a = (a.moment, a.entry)

-- the moment of the newest entry
abbrev pub last_moment : List Answered → ℕ
last_moment [] = 0
last_moment (a ∷ before) = a.moment

-- one more entry, after those before it
pub record GoesOn (limits : Limits) (rules : List Rule) (before : List Answered) (a : Answered) : Type 0 where
  -- moments never fall
  pub later : last_moment before ≤ a.moment
  -- the first entry is the opening, and no other is
  pub first : (a.entry ≡ opening) ↔ (before ≡ [])
  -- the reply is that to the trace of the entries before
  pub replied : a.reply ≡ reply_to limits rules a.moment (trace_of limits rules (map entry_of before)) a.entry

-- a run, the newest entry first
abbrev pub IsLegalRun : Limits → List Rule → List Answered → Type 0
IsLegalRun limits rules [] = Unit {0}
IsLegalRun limits rules (a ∷ before) = IsLegalRun limits rules before × GoesOn limits rules before a

-- entries with the replies of the definitions
abbrev pub answered : Limits → List Rule → List (ℕ × Entry) → List Answered
answered limits rules [] = []
answered limits rules ((t, e) ∷ entries) =
    record { moment = t; entry = e; reply = reply_to limits rules t (trace_of limits rules entries) e }
    ∷ answered limits rules entries
