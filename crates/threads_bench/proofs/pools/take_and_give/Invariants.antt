-- What the loops of `take_and_give` keep.
use Rattle.cy_pool.specs.Stocks.{IsIdleSeatOf}
use Rattle.threads_bench.proofs.pools.take_and_give.Given as goal

abbrev pub invariant-loop : goal.invariant-loop
invariant-loop g l = IsIdleSeatOf l.pool l.seat
