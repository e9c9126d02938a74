-- What is left to show of `limit_seats`.
use Rattle.std.proofs.Common.{◌+◌, refl, sym, ap, subst}
use Rattle.crossbeam_queue.specs.Passes.{view}
use Rattle.cy_pool.specs.Rule.{HasAll}
use Rattle.cy_pool.proofs.Parts.{limits}
use Rattle.cy_pool.proofs.limit.limit_seats.Goals as goal

pub another-requires-clause-rule : goal.another-requires-clause-rule
another-requires-clause-rule c = limits _ _ 1 0 c.requires.all refl

pub another-requires-in-loop-most-clause-rule : goal.another-requires-in-loop-most-clause-rule
another-requires-in-loop-most-clause-rule c =
    let v = view c.loop-most.pass in
    let all : HasAll v = subst HasAll (sym c.loop-most.invariant.1) (refl, refl, refl) in
    limits _ _ (v.parts + 1) (v.most + 1) all (ap (λ z. z + 1) all.1)
