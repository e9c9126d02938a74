-- What the loops of `LatchBook::new` keep.
use Rattle.std.proofs.Common.{◌≡◌, vec_capacity}
use Rattle.cy_latch.proofs.Drawn.{AreFirst}
use Rattle.cy_latch.proofs.book.LatchBook.new.Given as goal

abbrev pub invariant-loop-number : goal.invariant-loop-number
invariant-loop-number l = AreFirst l.limit l.number l.free.items × (vec_capacity l.free ≡ l.limit)
