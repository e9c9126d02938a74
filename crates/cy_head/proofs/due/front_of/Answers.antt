-- Each line keeps the scan, and the loop ends where the definition does.
use Rattle.cy_head.proofs.HeadScan.{scan_begins, scan_text, scan_blank, scan_stops, scan_ends, rest_is}
use Rattle.cy_head.proofs.due.front_of.Goals as goal

pub loop-end-init : goal.loop-end-init
loop-end-init c = scan_begins c.args.bytes.now

pub loop-end-preserved-then-not-is_empty : goal.loop-end-preserved-then-not-is_empty
loop-end-preserved-then-not-is_empty c =
    scan_text c.args.bytes.now c.loop-end.rest.now _ c.in-Some.end c.loop-end.begun c.is_line_end-is_empty.result c.loop-end.invariant
    c.in-Some.ensures (rest_is c.loop-end.rest.now c.in-Some.end) c.is_line_end-is_empty.ensures c.if-not-is_empty.true

pub loop-end-preserved : goal.loop-end-preserved
loop-end-preserved c =
    scan_blank c.args.bytes.now c.loop-end.rest.now _ c.in-Some.end c.loop-end.begun c.is_line_end-is_empty.result c.loop-end.invariant
    c.in-Some.ensures (rest_is c.loop-end.rest.now c.in-Some.end) c.is_line_end-is_empty.ensures c.if-not-is_empty.false c.if-begun.false

pub returns-then-begun-clause-front : goal.returns-then-begun-clause-front
returns-then-begun-clause-front c =
    scan_stops c.args.bytes.now c.loop-end.rest.now _ c.in-Some.end c.loop-end.begun c.is_line_end-is_empty.result c.loop-end.invariant
    c.in-Some.ensures (rest_is c.loop-end.rest.now c.in-Some.end) c.is_line_end-is_empty.ensures c.if-begun.true c.if-not-is_empty.false

pub returns-clause-front : goal.returns-clause-front
returns-clause-front c = scan_ends c.args.bytes.now c.loop-end.rest.now c.loop-end.begun c.loop-end.invariant c.in_default.ensures
