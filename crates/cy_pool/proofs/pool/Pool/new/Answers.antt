-- What is left to show of `Pool::new`.
use Rattle.std.proofs.Common.{refl, ap, sym, subst}
use Rattle.cy_pool.specs.Rule.{HasAll}
use Rattle.cy_pool.proofs.Moves.{begins, adds}
use Rattle.cy_pool.proofs.pool.Pool.new.Goals as goal

pub ruled-requires-clause-rule : goal.ruled-requires-clause-rule
ruled-requires-clause-rule c = begins

pub try_push_as-requires-clause-rule : goal.try_push_as-requires-clause-rule
try_push_as-requires-clause-rule c =
    adds _ _ _ _ (subst HasAll (sym c.loop-number.invariant.1) (refl, refl, refl)) (sym (ap (λ v. v.size) c.loop-number.invariant.1))
