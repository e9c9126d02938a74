-- Which steps a connector can take one behind the other, as the tests of courses put them together.
use Rattle.std.specs.Prelude.{◌≡◌, ◌≤◌, ◌<◌, ℕ, false, List, reverse}
use Rattle.std.specs.List.{list_any}
use Rattle.cy_event.specs.declared.steps.Step.{Step}
use Rattle.cy_event.specs.declared.steps.Step.TheVariants as step
use Rattle.cy_model.specs.Steps.{IsNewNumber, IsValid, IsWithinBytes}
use Rattle.cy_world.specs.Told.{is_clock}

-- A connector can take the steps from the first on, and they admit no number beyond this one.
pub record CanBeTaken (last : ℕ) (steps : List Step) : Type 0 where
  pub valid : IsValid (reverse steps)
  pub clock : list_any is_clock steps ≡ false
  pub new : (n : ℕ) → last < n → IsNewNumber n (reverse steps)

-- A step that may stand behind such steps: it is none of the clock, an admission is one of a greater number, and an act
-- counts no more than it may.
abbrev pub IsNext : ℕ → Step → Type 0
IsNext last (step.At t) = ⊥
IsNext last (step.Admit c) = last < c
IsNext last (step.On c e b) = 1 ≤ c
IsNext last (step.Run c) = 1 ≤ c
IsNext last (step.Act c a b) = (1 ≤ c) × IsWithinBytes a b

-- the greatest number that is admitted with the step
abbrev pub last_by : ℕ → Step → ℕ
last_by last (step.Admit c) = c
last_by last s = last
