-- What is left to show of `Pool::give`.
use Rattle.std.proofs.Common.{rules}
use Rattle.cy_pool.proofs.Moves.{gives, has_room}
use Rattle.cy_pool.proofs.pool.Pool.give.Goals as goal

pub push_as-requires-clause-rule : goal.push_as-requires-clause-rule
push_as-requires-clause-rule g c = (gives _ _ _ _ (search rules) (search rules), has_room _ _ c.slip.inside.number (search rules) (search rules))
