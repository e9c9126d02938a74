-- Kinds of readiness. Own.
use Rattle.std.specs.Prelude.{Bool, false, ◌||◌, ◌&&◌, not}
use Rattle.cy_poll.specs.declared.kinds.Kinds.{Kinds}
use Rattle.cy_link.specs.declared.readiness.Ready.{Ready}

abbrev pub no_kinds : Kinds
no_kinds = record { read = false; write = false }

-- the kinds of an event
abbrev pub kinds_in : Ready → Kinds
kinds_in e = record { read = e.read; write = e.write }

-- some kind is among both
abbrev pub meets : Kinds → Kinds → Bool
meets a b = (a.read && b.read) || (a.write && b.write)

abbrev pub with_kinds : Kinds → Kinds → Kinds
with_kinds a b = record { read = a.read || b.read; write = a.write || b.write }

abbrev pub without_kinds : Kinds → Kinds → Kinds
without_kinds a b = record { read = a.read && not b.read; write = a.write && not b.write }
