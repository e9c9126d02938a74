-- What is left to show of `read_items`.
use Rattle.std.proofs.Common.{sym, arith}
use Rattle.cy_bytes.proofs.Loop.{goes_on, stops, is_done}
use Rattle.cy_bytes.proofs.quoting.read_items.Goals as goal

pub returns-in_default : goal.returns-in_default
returns-in_default c = stops c.args.inner.now c.loop-rest.bytes.items c.loop-rest.rest.now c.loop-rest.invariant.so_far c.loop-rest-test.ensures (sym c.in_default.ensures.item)

pub loop-rest-preserved : goal.loop-rest-preserved
loop-rest-preserved c =
    let next = goes_on c.args.inner.now c.loop-rest.bytes.items c.loop-rest.rest.now c.in-Some.after.now c.in-Some.byte c.loop-rest.invariant.so_far (sym c.in-Some.ensures.item) in
    record {
      room = omega (arith, c.in-Some.ensures.shorter);
      within = omega (arith, c.in-Some.ensures.shorter);
      so_far = rw c.push_reserved.ensures.items next;
    }

pub returns : goal.returns
returns c = rw c.of.ensures (is_done c.args.inner.now c.loop-rest.bytes.items c.loop-rest.rest.now c.loop-rest.invariant.so_far c.loop-rest-test.ensures)
