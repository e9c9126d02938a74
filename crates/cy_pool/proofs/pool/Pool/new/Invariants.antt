-- What the loops of `Pool::new` keep.
use Rattle.std.proofs.Common.{◌≡◌, ◌-◌, ◌^◌, None}
use Rattle.crossbeam_queue.specs.Passes.{view, IsPassOf}
use Rattle.cy_pool.specs.Rule.{view_of}
use Rattle.cy_pool.proofs.pool.Pool.new.Given as goal

-- the pass has all parts, and knows of the numbers so far
abbrev pub invariant-loop-number : goal.invariant-loop-number
invariant-loop-number l = IsPassOf l.numbers l.pass × (view l.pass ≡ view_of 1 (2 ^ 32) l.number (2 ^ 32 - 1) None)
