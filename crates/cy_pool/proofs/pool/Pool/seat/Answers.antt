-- What is left to show of `Pool::seat`.
use Rattle.std.proofs.Common.{◌≡◌, ◌+◌, ◌-◌, ap, arith, rules}
use Rattle.crossbeam_queue.specs.Passes.{view}
use Rattle.cy_pool.proofs.Parts.{forks}
use Rattle.cy_pool.proofs.pool.Pool.seat.Goals as goal

pub another-pass-requires-clause-rule : goal.another-pass-requires-clause-rule
another-pass-requires-clause-rule c =
    let known = view c.keeper.inside.pass in
    let seats : known.most + 1 - known.parts ≡ c.args.keeper.now.seats = ap (λ s. s.seats) c.keeper.view_is in
    let most : known.most ≡ c.args.keeper.now.most = ap (λ s. s.most) c.keeper.view_is in
    forks _ _ (search rules) (search rules) (omega (arith, seats, most, c.requires.few))
