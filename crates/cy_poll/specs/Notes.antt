-- What is noted of places, by their numbers: the kinds that each waits for, and those of the events that are kept for it.
-- Own.
use Rattle.std.specs.Prelude.{ℕ, List, if◌then◌else◌, slice_index_or}
use Rattle.cy_poll.specs.declared.kinds.Kinds.{Kinds}
use Rattle.cy_poll.specs.declared.kinds.Note.{Note}
use Rattle.cy_poll.specs.Kinds.{meets, no_kinds, without_kinds}

-- a place that waits for nothing, and for which nothing is kept
abbrev pub no_note : Note
no_note = record { wanted = no_kinds; kept = no_kinds }

-- what is noted of a place; of one that isn't there, nothing
abbrev pub note_of : List Note → ℕ → Note
note_of notes place = slice_index_or notes place no_note

-- A place asks for these kinds: where an event of one of them is kept, these are taken and it waits for nothing; else it
-- waits for them.
abbrev pub after_want : Note → Kinds → Note
after_want n kinds =
    if meets n.kept kinds
    then record { wanted = no_kinds; kept = without_kinds n.kept kinds }
    else record { wanted = kinds; kept = n.kept }
