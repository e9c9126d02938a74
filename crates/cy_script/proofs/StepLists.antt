-- Lists of steps that grow at their end.
use Rattle.std.proofs.Common.{◌≡◌, ℕ, ◌+◌, ◌≤◌, true, false, cond, ◌||◌, not, eqb, leb, List, [], ◌∷◌, ◌++◌, refl, sym, ◌∙◌, subst, arith}
use Rattle.std.specs.Prelude.{count_by}
use Rattle.std.specs.List.{list_all, sum_by}
use Rattle.std.proofs.lemmas.Bool.{eqb-true, leb-true, le-leb}
use Rattle.std.proofs.lemmas.Bool.Decides.{nat_tests}
use Rattle.std.proofs.lemmas.List.Folds.{list_all-append}
use Rattle.std.proofs.lemmas.List.Sums.{sum_by-append, sum_by-cons}
use Rattle.cy_event.specs.declared.steps.Step.{Step}
use Rattle.cy_event.specs.declared.steps.Step.TheVariants as step
use Rattle.cy_script.specs.Conditions.{admits, admits_again, is_admitted, is_next_step, is_of_a_connection, written_by, AreSteps}
use Rattle.cy_script.proofs.Words.{and_parts, not_true}

-- how often the steps admit the connection of the number
abbrev pub admissions : ℕ → List Step → ℕ
admissions n steps = count_by (admits n) steps

-- 1 for a step that admits it
abbrev pub one_if_admits : ℕ → Step → ℕ
one_if_admits n s = cond (admits n s) 1 0

-- ---- whether a number is admitted, and how often

-- a number that no step admits is admitted 0 times
not_admitted : (n : ℕ) (steps : List Step) → is_admitted n steps ≡ false
    → admissions n steps ≡ 0
not_admitted n [] h = refl
not_admitted n (s ∷ steps) h =
    let sum : ℕ = admissions n steps in
    let rest =
    elim (admits n s) as (λ t. (t || is_admitted n steps) ≡ false → cond t 1 0 + sum ≡ 0) [
      | true ↦ λ k. absurd cc
      | false ↦ λ k. omega (arith, not_admitted n steps k)
    ] h in
    sum_by-cons (one_if_admits n) s steps ∙ rest

-- a number that is admitted 0 times is admitted by no step
never_admitted : (n : ℕ) (steps : List Step) → admissions n steps ≡ 0
    → is_admitted n steps ≡ false
never_admitted n [] h = refl
never_admitted n (s ∷ steps) h =
    let sum : ℕ = admissions n steps in
    elim (admits n s) as (λ t. cond t 1 0 + sum ≡ 0 → (t || is_admitted n steps) ≡ false) [
      | true ↦ λ k. absurd (omega (arith, k))
      | false ↦ λ k. never_admitted n steps (omega (arith, k))
    ] (sym (sum_by-cons (one_if_admits n) s steps) ∙ h)

-- ---- one step more

-- a step that admits no number again
still_once : (n : ℕ) (steps : List Step) (s : Step) → admissions n steps ≤ 1
    → admits_again steps s ≡ false → admissions n steps + one_if_admits n s ≤ 1
still_once n steps (step.At t) once new = omega (arith, once)
still_once n steps (step.Admit conn) once new =
    elim (eqb n conn) as (λ t. eqb n conn ≡ t → admissions n steps + cond t 1 0 ≤ 1) [
      | true ↦ λ e.
          let same = sym (eqb-true n conn e) in
          let none = subst (λ (m : ℕ). is_admitted m steps ≡ false) same new in
          omega (arith, not_admitted n steps none)
      | false ↦ λ e. omega (arith, once)
    ] refl
still_once n steps (step.On conn e b) once new = omega (arith, once)
still_once n steps (step.Run conn) once new = omega (arith, once)
still_once n steps (step.Act conn a b) once new = omega (arith, once)

-- allowed steps with a next step are allowed
pub steps_kept : (steps : List Step) (s : Step) → AreSteps steps
    → is_next_step steps s ≡ true → AreSteps (steps ++ s ∷ [])
steps_kept steps s are next =
    let total : ℕ = sum_by written_by steps + written_by s in
    let parts = and_parts (is_of_a_connection s) _ next in
    let more = and_parts (not (admits_again steps s)) (leb total 8192) parts.1 in
    let new = not_true (admits_again steps s) more.0 in
    let few = leb-true total 8192 more.1 in
    let all = list_all-append is_of_a_connection steps (s ∷ []) in
    let one = λ (n : ℕ). sum_by-append (one_if_admits n) steps (s ∷ []) in
    record {
      of_connections = all ∙ rw (are.of_connections, parts.0) refl;
      once = λ n. omega (arith, still_once n steps s (are.once n) new, one n);
      short = omega (arith, few, sum_by-append written_by steps (s ∷ []));
    }

-- ---- allowed steps come one after another

-- a step of some that admit each number once at most admits none that stands before
none_again : (steps : List Step) (s : Step) (more : List Step)
    → ((n : ℕ) → admissions n (steps ++ s ∷ more) ≤ 1) → admits_again steps s ≡ false
none_again steps (step.At t) more once = refl
none_again steps (step.Admit conn) more once =
    let whole = sum_by-append (one_if_admits conn) steps (step.Admit conn ∷ more) in
    let rest = sum_by-cons (one_if_admits conn) (step.Admit conn) more in
    let same : eqb conn conn ≡ true = grind (arith, nat_tests) in
    let one : one_if_admits conn (step.Admit conn) ≡ 1 = rw same refl in
    never_admitted conn steps (omega (arith, once conn, whole, rest, one))
none_again steps (step.On conn e b) more once = refl
none_again steps (step.Run conn) more once = refl
none_again steps (step.Act conn a b) more once = refl

-- each of allowed steps is a next step of those before it
pub next_step : (steps : List Step) (s : Step) (more : List Step)
    → AreSteps (steps ++ s ∷ more) → is_next_step steps s ≡ true
next_step steps s more are =
    let all = list_all-append is_of_a_connection steps (s ∷ more) in
    let each = and_parts (list_all is_of_a_connection steps) _ (sym all ∙ are.of_connections) in
    let own = and_parts (is_of_a_connection s) (list_all is_of_a_connection more) each.1 in
    let whole = sum_by-append written_by steps (s ∷ more) in
    let rest = sum_by-cons written_by s more in
    let total : ℕ = sum_by written_by steps + written_by s in
    let few : total ≤ 8192 = omega (arith, are.short, whole, rest) in
    rw (own.0, none_again steps s more are.once, le-leb _ _ few) refl
