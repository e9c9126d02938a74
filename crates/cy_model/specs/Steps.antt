-- The valid lists of steps, the newest first.
use Rattle.std.specs.Prelude.{◌≤◌, ◌≢◌, ℕ, List, [], ◌∷◌, length}
use Rattle.cy_event.specs.declared.limits.TheConstants.{GREATEST_MOMENT}
use Rattle.cy_event.specs.declared.steps.Act.{Act}
use Rattle.cy_event.specs.declared.steps.Act.TheVariants as act
use Rattle.cy_event.specs.declared.steps.Step.{Step}
use Rattle.cy_event.specs.declared.steps.Step.TheVariants as step
use Rattle.cy_event.specs.declared.steps.TheConstants.{GREATEST_READ}
use Rattle.cy_model.specs.Connections.{moment}

-- no earlier step admits the number
abbrev pub IsNewNumber : ℕ → List Step → Type 0
IsNewNumber c [] = Unit {0}
IsNewNumber c (step.Admit d ∷ w) = (c ≢ d) × IsNewNumber c w
IsNewNumber c (s ∷ w) = IsNewNumber c w

-- an act counts no more than it may: a read that bound, a write the bytes that stand beside it
abbrev pub IsWithinBytes : Act → List ℕ → Type 0
IsWithinBytes (act.Read n) b = n ≤ GREATEST_READ
IsWithinBytes (act.Write n) b = n ≤ length b
IsWithinBytes act.Return b = Unit {0}

-- A step may follow those before it: moments never fall, a number is admitted once, numbers are 1 or more.
abbrev pub MayFollow : Step → List Step → Type 0
MayFollow (step.At t) w = (moment w ≤ t) × (t ≤ GREATEST_MOMENT)
MayFollow (step.Admit c) w = (1 ≤ c) × IsNewNumber c w
MayFollow (step.On c e b) w = 1 ≤ c
MayFollow (step.Run c) w = 1 ≤ c
MayFollow (step.Act c a b) w = (1 ≤ c) × IsWithinBytes a b

abbrev pub IsValid : List Step → Type 0
IsValid [] = Unit {0}
IsValid (s ∷ w) = IsValid w × MayFollow s w
