-- A clock in memory tells of one moment more.
use Rattle.std.proofs.Common.{◌≡◌, ◌+◌, ◌<◌, ◌≤◌, ◌⊎◌, inl, inr, ℕ, true, false, nat_lt, cond, List, [], ◌∷◌, ◌++◌, Option, Some, None, min, refl, add-one, ap, sym, ◌∙◌, arith}
use Rattle.std.proofs.lemmas.Bool.{cases_lt}
use Rattle.std.proofs.lemmas.Bool.Decides.{nat_tests}
use Rattle.cy_link.specs.Moments.{Tells, moment_of, moments_of}

-- what is told after so many calls, of which at most so many are counted
abbrev pub told : ℕ → List ℕ → ℕ → Option (List ℕ)
told most moments calls = cond (nat_lt calls most) (Some (moments_of moments calls)) None

more : (moments : List ℕ) (calls : ℕ) → moments_of moments (calls + 1) ≡ moments_of moments calls ++ moment_of moments calls ∷ []
more moments calls = rw add-one refl

pub tells_more : (most : ℕ) (moments : List ℕ) (calls now r : ℕ) → now ≡ min (calls + 1) most → r ≡ moment_of moments calls → Tells (told most moments calls) (told most moments now) r
tells_more most moments calls now r counted is = by_case (cases_lt now most)
  where
    by_case : ((now < most) ⊎ (most ≤ now)) → Tells (told most moments calls) (told most moments now) r
    by_case (inl h) =
        let before : nat_lt calls most ≡ true = grind (arith, nat_tests) in
        let after : nat_lt now most ≡ true = grind (arith, nat_tests) in
        let next : now ≡ calls + 1 = omega arith in
        rw (before, after) (ap (moments_of moments) next ∙ more moments calls ∙ ap (λ m. moments_of moments calls ++ m ∷ []) (sym is))
    by_case (inr h) =
        let after : nat_lt now most ≡ false = grind (arith, nat_tests) in
        rw after tt
