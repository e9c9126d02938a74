-- A run is copied at once; another byte only moves the mark.
use Rattle.std.proofs.Common.{◌≡◌, ◌≤◌, length, arith}
use Rattle.std.proofs.lemmas.Bool.Decides.{nat_tests}
use Rattle.std.proofs.lemmas.List.{length-take-le}
use Rattle.cy_event.specs.Bodies.{content_left}
use Rattle.cy_in.proofs.Giving.{giving_run, giving_byte, tail_is}
use Rattle.cy_in.proofs.marks.give_bytes.Goals as goal

pub loop-filled-preserved-then-run-gt0 : goal.loop-filled-preserved-then-run-gt0
loop-filled-preserved-then-run-gt0 c =
    let here : c.run_within-run.result ≤ length c.loop-filled.rest.now = omega arith in
    let size = length-take-le c.run_within-run.result c.loop-filled.rest.now here in
    giving_run c.args.max_trailer c.args.most c.args.from c.args.bytes.now c.args.into.now c.loop-filled.mark c.run_after-mark.result c.loop-filled.rest.now _
    c.loop-filled.filled c.run_within-run.result c.loop-filled.into c.put_at.new.into c.loop-filled.invariant (omega arith) (omega arith) (omega arith) here
    c.run_after-mark.ensures.mark (rw size at c.put_at.ensures.front) (rw size at c.put_at.ensures.behind) c.run_after-mark.ensures.moves.content
    (tail_is c.loop-filled.rest.now c.run_within-run.result)

pub loop-filled-preserved : goal.loop-filled-preserved
loop-filled-preserved c =
    let some : 1 ≤ length c.loop-filled.rest.now = grind (arith, nat_tests) in
    let none : content_left c.loop-filled.mark.stage ≡ 0 = omega arith in
    giving_byte c.args.max_trailer c.args.most c.args.from c.args.bytes.now c.args.into.now c.loop-filled.mark c.scan_byte-mark.result c.loop-filled.rest.now _
    c.loop-filled.filled c.loop-filled.into c.loop-filled.invariant (omega arith) none some
    c.scan_byte-mark.ensures.mark (omega arith) (omega arith) c.scan_byte-mark.ensures.moves.content
    (tail_is c.loop-filled.rest.now 1)
