-- What accepting a connection does.
use Rattle.std.specs.Prelude.{◌≡◌, ◌+◌, ℕ, Option, None, Some}
use Rattle.cy_link.specs.declared.door.Accepted.{Accepted}
use Rattle.cy_link.specs.declared.door.Accepted.TheVariants.{Link, NotYet, Failed}
use Rattle.cy_link.specs.Causes.{Rose}

-- one more, where the number is known
abbrev pub one_more : Option ℕ → Option ℕ
one_more None = None
one_more (Some n) = Some (n + 1)

-- one more connection was given, exactly where one is answered
abbrev pub AcceptMoves : {L : Type 0} → Option ℕ → Option ℕ → Accepted L → Type 0
AcceptMoves given now (Link link) = now ≡ one_more given
AcceptMoves given now NotYet = now ≡ given
AcceptMoves given now Failed = now ≡ given

-- what the count of faults does: it stays, but where accepting failed
abbrev pub AcceptCounts : {L : Type 0} → ℕ → ℕ → Accepted L → Type 0
AcceptCounts before now (Link link) = now ≡ before
AcceptCounts before now NotYet = now ≡ before
AcceptCounts before now Failed = Rose before now

-- what the count of pauses does: it stays, but where no connection waits
abbrev pub AcceptPauses : {L : Type 0} → ℕ → ℕ → Accepted L → Type 0
AcceptPauses before now (Link link) = now ≡ before
AcceptPauses before now NotYet = Rose before now
AcceptPauses before now Failed = now ≡ before
