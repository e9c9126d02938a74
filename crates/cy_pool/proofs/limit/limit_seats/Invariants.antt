-- What the loop of `limit_seats` keeps.
use Rattle.std.proofs.Common.{◌≡◌, ◌+◌, None}
use Rattle.crossbeam_queue.specs.Passes.{view, IsPassOf}
use Rattle.cy_pool.specs.Rule.{view_of}
use Rattle.cy_pool.proofs.limit.limit_seats.Given as goal

-- the pass has all parts, and knows of the seats so far
abbrev pub invariant-loop-most : goal.invariant-loop-most
invariant-loop-most l = IsPassOf l.numbers l.pass × (view l.pass ≡ view_of 1 (l._most + 1) (view l.fn.pass).size l._most None)
