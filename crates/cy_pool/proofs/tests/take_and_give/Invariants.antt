-- What the loops of `take_and_give` keep.
use Rattle.cy_pool.specs.Stocks.{FindsOne}
use Rattle.cy_pool.proofs.tests.take_and_give.Given as goal

abbrev pub invariant-loop : goal.invariant-loop
invariant-loop g l = FindsOne l.pool l.seat
