-- A run of content is passed by at once.
use Rattle.std.proofs.Common.{◌≤◌, length, arith}
use Rattle.cy_event.specs.Bodies.{content_left}
use Rattle.cy_event.proofs.BodyRuns.{scan_run}
use Rattle.cy_in.proofs.marks.step.Goals as goal

pub returns-then-run-gt0-clause-mark : goal.returns-then-run-gt0-clause-mark
returns-then-run-gt0-clause-mark c =
    let left : c.run_within-run.result ≤ content_left c.args.mark.stage = omega arith in
    let here : c.run_within-run.result ≤ length c.args.rest.now = omega arith in
    rw c.run_after.ensures.mark
    (scan_run c.args.max_trailer c.args.mark c.args.rest.now c.run_within-run.result (omega arith) left here)
