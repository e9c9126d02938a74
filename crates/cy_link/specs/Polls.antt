-- What registering a connection and polling do.
use Rattle.std.specs.Prelude.{◌≡◌, ◌≤◌, ℕ, Bool, true, false}
use Rattle.cy_link.specs.declared.readiness.Polled.{Polled}
use Rattle.cy_link.specs.declared.readiness.Polled.TheVariants.{Events, Failed}
use Rattle.cy_link.specs.Causes.{Rose}

-- what the count of faults does as a connection is registered: it stays, but where that failed
abbrev pub RegisterCounts : ℕ → ℕ → Bool → Type 0
RegisterCounts before now true = now ≡ before
RegisterCounts before now false = Rose before now

-- a poll into a slice of this length finds at most so many events
abbrev pub IsPollOf : ℕ → Polled → Type 0
IsPollOf len (Events n) = n ≤ len
IsPollOf len Failed = Unit {0}

-- what the count of faults does in a poll: it stays, but where the poll failed
abbrev pub PollCounts : ℕ → ℕ → Polled → Type 0
PollCounts before now (Events n) = now ≡ before
PollCounts before now Failed = Rose before now
