-- A step that may be the next one behind others can be taken with them.
use Rattle.std.proofs.Common.{◌≡◌, ◌≢◌, ◌<◌, ◌≤◌, ℕ, false, List, [], ◌∷◌, ◌++◌, reverse, refl, sym, subst, ◌∙◌, arith}
use Rattle.std.proofs.lemmas.Bool.{or_from}
use Rattle.std.proofs.lemmas.List.{reverse-append}
use Rattle.std.proofs.lemmas.List.Folds.{list_any-append}
use Rattle.std.specs.List.{list_any}
use Rattle.cy_event.specs.declared.steps.Step.{Step}
use Rattle.cy_event.specs.declared.steps.Step.TheVariants as step
use Rattle.cy_model.specs.Steps.{IsNewNumber, IsValid, MayFollow}
use Rattle.cy_world.specs.Told.{is_clock}
use Rattle.world_tests.specs.Courses.{CanBeTaken, IsNext, last_by}

may_follow : (last : ℕ) (s : Step) (w : List Step) → ((n : ℕ) → last < n → IsNewNumber n w) → IsNext last s → MayFollow s w
may_follow last (step.At t) w new next = absurd next
may_follow last (step.Admit c) w new next =
    let from_1 : 1 ≤ c = omega (arith, next) in
    (from_1, new c next)
may_follow last (step.On c e b) w new next = next
may_follow last (step.Run c) w new next = next
may_follow last (step.Act c a b) w new next = next

greater_are_new : (last : ℕ) (s : Step) (w : List Step) → ((n : ℕ) → last < n → IsNewNumber n w) → IsNext last s
    → (n : ℕ) → last_by last s < n → IsNewNumber n (s ∷ w)
greater_are_new last (step.At t) w new next n less = absurd next
greater_are_new last (step.Admit c) w new next n less =
    let above : last < n = omega (arith, next, less) in
    let other : n ≢ c = λ same. omega (arith, same, less) in
    (other, new n above)
greater_are_new last (step.On c e b) w new next n less = new n less
greater_are_new last (step.Run c) w new next n less = new n less
greater_are_new last (step.Act c a b) w new next n less = new n less

not_clock : (last : ℕ) (s : Step) → IsNext last s → is_clock s ≡ false
not_clock last (step.At t) next = absurd next
not_clock last (step.Admit c) next = refl
not_clock last (step.On c e b) next = refl
not_clock last (step.Run c) next = refl
not_clock last (step.Act c a b) next = refl

-- the newest first
behind : (steps : List Step) (s : Step) → reverse (steps ++ s ∷ []) ≡ s ∷ reverse steps
behind steps s = reverse-append steps (s ∷ [])

pub one_more : (last : ℕ) (steps : List Step) (s : Step) → CanBeTaken last steps → IsNext last s → CanBeTaken (last_by last s) (steps ++ s ∷ [])
one_more last steps s can next = record {
  valid = subst IsValid (sym (behind steps s)) (can.valid, may_follow last s (reverse steps) can.new next);
  clock =
      list_any-append is_clock steps (s ∷ [])
      ∙ or_from (list_any is_clock steps) (list_any is_clock (s ∷ [])) can.clock
      (or_from (is_clock s) false (not_clock last s next) refl);
  new = λ n less.
      subst (IsNewNumber n) (sym (behind steps s)) (greater_are_new last s (reverse steps) can.new next n less);
}
