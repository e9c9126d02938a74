-- What a step of the acceptor does to the door. Own.
use Rattle.std.specs.Prelude.{◌≡◌, ℕ, Option}
use Rattle.cy_link.specs.Accepts.{one_more}
use Rattle.cy_link.specs.Causes.{Rose}
use Rattle.cy_accept.specs.declared.accept.Step1.{Step1}
use Rattle.cy_accept.specs.declared.accept.Step1.TheVariants.{In, NotYet, Full, Failed}

-- where the latch is full the door stays as it was
abbrev pub AsksNoDoor : {L : Type 0} → Type 0 → Step1 L → Type 0
AsksNoDoor same (In link share) = Unit {0}
AsksNoDoor same NotYet = Unit {0}
AsksNoDoor same (Full count) = same
AsksNoDoor same Failed = Unit {0}

-- the door gave one connection more exactly where one is answered
abbrev pub StepGives : {L : Type 0} → Option ℕ → Option ℕ → Step1 L → Type 0
StepGives given now (In link share) = now ≡ one_more given
StepGives given now NotYet = now ≡ given
StepGives given now (Full count) = now ≡ given
StepGives given now Failed = now ≡ given

-- what the door's count of faults does: it stays, but where accepting failed
abbrev pub StepCounts : {L : Type 0} → ℕ → ℕ → Step1 L → Type 0
StepCounts before now (In link share) = now ≡ before
StepCounts before now NotYet = now ≡ before
StepCounts before now (Full count) = now ≡ before
StepCounts before now Failed = Rose before now

-- what the door's count of pauses does: it stays, but where no connection waits
abbrev pub StepPauses : {L : Type 0} → ℕ → ℕ → Step1 L → Type 0
StepPauses before now (In link share) = now ≡ before
StepPauses before now NotYet = Rose before now
StepPauses before now (Full count) = now ≡ before
StepPauses before now Failed = now ≡ before
