-- What is left to show of `Pool::join`.
use Rattle.std.proofs.Common.{◌≡◌, ◌+◌, ◌<◌, ap, arith, rules}
use Rattle.crossbeam_queue.specs.Passes.{view}
use Rattle.cy_pool.proofs.Parts.{merges, few_parts}
use Rattle.cy_pool.proofs.pool.Pool.join.Goals as goal

pub absorb-requires-clause-rule : goal.absorb-requires-clause-rule
absorb-requires-clause-rule c = merges _ _ _ _ (search rules) (search rules) (search rules)

pub learn_as-requires-clause-rule : goal.learn_as-requires-clause-rule
learn_as-requires-clause-rule c =
    let known = view c.keeper.inside.pass in
    let more : (view c.absorb.new.pass).parts ≡ known.parts + (view c.seat.inside.pass).parts = ap (λ v. v.parts) c.absorb.ensures.rule in
    let some : 0 < known.parts = search rules in
    few_parts _ _ (omega (arith, more, some))
