-- An acceptor's calls, as the latch sees them.
use Rattle.std.proofs.Common.{◌≡◌, ℕ, ◌+◌, Bool, List, [], ◌∷◌, length, refl, ap, sym, ◌∙◌, subst, arith}
use Rattle.cy_latch.specs.Numbers.{IsDistinct, holds}
use Rattle.cy_latch.specs.Runs as latch
use Rattle.cy_latch.proofs.Counted.{latch_counts}
use Rattle.cy_accept.specs.Runs.{EachCame, IsRun, Turn, came, came_count, left, left_count, none_came, shares_in, was_full}
use Rattle.cy_accept.specs.Laws.{LatchCountsConnections}

-- a step for which no connection comes enters the latch and leaves it, so that nothing is seen of it
unfoldable as_latch : List Turn → List latch.Turn
as_latch [] = []
as_latch (came n ∷ before) = latch.entered n ∷ as_latch before
as_latch (none_came ∷ before) = as_latch before
as_latch (was_full count ∷ before) = latch.was_full ∷ as_latch before
as_latch (left n ∷ before) = latch.left n ∷ as_latch before

runs : (limit : ℕ) (turns : List Turn) (numbers : List Bool) → IsRun limit turns numbers → latch.IsRun limit (as_latch turns) numbers
unfolding as_latch
runs limit [] numbers run = run
runs limit (came n ∷ before) numbers run = (run.0, runs limit before run.0 run.1, run.2)
runs limit (none_came ∷ before) numbers run = subst (λ (l : List Bool). latch.IsRun limit (as_latch before) l) (sym run.2) (runs limit before run.0 run.1)
runs limit (was_full count ∷ before) numbers run = (run.0, runs limit before run.0 run.1, (run.2.0, run.2.2))
runs limit (left n ∷ before) numbers run = (run.0, runs limit before run.0 run.1, run.2)

shares : (turns : List Turn) → latch.given (as_latch turns) ≡ shares_in turns
unfolding as_latch
shares [] = refl
shares (came n ∷ before) = ap (λ (l : List ℕ). n ∷ l) (shares before)
shares (none_came ∷ before) = shares before
shares (was_full count ∷ before) = shares before
shares (left n ∷ before) = ap (latch.without n) (shares before)

entered : (turns : List Turn) → latch.entered_count (as_latch turns) ≡ came_count turns
unfolding as_latch
entered [] = refl
entered (came n ∷ before) = ap (λ (k : ℕ). k + 1) (entered before)
entered (none_came ∷ before) = entered before
entered (was_full count ∷ before) = entered before
entered (left n ∷ before) = entered before

leaves : (turns : List Turn) → latch.left_count (as_latch turns) ≡ left_count turns
unfolding as_latch
leaves [] = refl
leaves (came n ∷ before) = leaves before
leaves (none_came ∷ before) = leaves before
leaves (was_full count ∷ before) = leaves before
leaves (left n ∷ before) = ap (λ (k : ℕ). k + 1) (leaves before)

each_came : (turns : List Turn) → EachCame turns → latch.EachCame (as_latch turns)
unfolding as_latch
each_came [] e = tt
each_came (came n ∷ before) e = each_came before e
each_came (none_came ∷ before) e = each_came before e
each_came (was_full count ∷ before) e = each_came before e
each_came (left n ∷ before) e = (ap (λ (l : List ℕ). holds l n) (shares before) ∙ e.0, each_came before e.1)

pub connections_counted : LatchCountsConnections
connections_counted limit turns numbers run =
    let law = latch_counts limit (as_latch turns) numbers (runs limit turns numbers run) in
    record {
      once = subst IsDistinct (shares turns) law.once;
      counted = law.counted ∙ ap length (shares turns);
      limited = law.limited;
      balanced = λ e. let b = law.balanced (each_came turns e) in let c = entered turns in let l = leaves turns in omega (arith, b, c, l);
    }
