-- What is left to show of `Pool::take`.
use Rattle.std.proofs.Common.{rules}
use Rattle.cy_pool.proofs.Moves.{takes, fewer_out}
use Rattle.cy_pool.proofs.pool.Pool.take.Goals as goal

pub pop_as-requires-clause-rule : goal.pop_as-requires-clause-rule
pop_as-requires-clause-rule g c =
    (takes _ _ (search rules) (search rules) (search rules), fewer_out _ _ (search rules) (search rules) (search rules))
