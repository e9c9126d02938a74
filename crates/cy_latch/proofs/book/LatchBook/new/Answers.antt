-- What is left to show of `LatchBook::new`.
use Rattle.std.proofs.Common.{◌∙◌, arith}
use Rattle.cy_latch.proofs.Drawn.{first_more}
use Rattle.cy_latch.proofs.book.LatchBook.new.Goals as goal

pub loop-number-preserved : goal.loop-number-preserved
loop-number-preserved c = (
  rw c.push_reserved.ensures.items (first_more c.args.limit c.loop-number.number c.loop-number.free.items (omega arith) c.loop-number.invariant.0),
  c.push_reserved.ensures.capacity ∙ c.loop-number.invariant.1,
)
