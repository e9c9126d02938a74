-- Each return, by what the front is read as.
use Rattle.std.proofs.Common.{arith, length-take-le}
use Rattle.cy_head.proofs.HeadReads.{awaited_shows, endless_shows, large_shows, malformed_shows, found_by_spans, refused_by_host}
use Rattle.cy_head.proofs.spans.find_spans.Goals as goal

pub returns-then-bytes-max_head : goal.returns-then-bytes-max_head
returns-then-bytes-max_head c = record {
  found = awaited_shows c.args.max_head _ c.args.bytes.now c.in_default.ensures.front c.if-bytes-max_head.true;
  within = tt;
}

pub returns-else-bytes-max_head : goal.returns-else-bytes-max_head
returns-else-bytes-max_head c = record {
  found = endless_shows c.args.max_head _ c.args.bytes.now c.in_default.ensures.front c.if-bytes-max_head.false;
  within = tt;
}

pub returns-then-length-max_head : goal.returns-then-length-max_head
returns-then-length-max_head c = record {
  found = large_shows c.args.max_head _ c.args.bytes.now c.in-Some.length c.in-Some.ensures.front c.if-length-max_head.true;
  within = tt;
}

pub returns-in_default-whole_request-clause-found : goal.returns-in_default-whole_request-clause-found
returns-in_default-whole_request-clause-found c =
    malformed_shows c.args.max_head _ c.args.bytes.now c.in-Some.length c.in-Some.ensures.front c.if-length-max_head.false
    c.in_default-whole_request.ensures.none

pub returns-then-has_right_host-clause-found : goal.returns-then-has_right_host-clause-found
returns-then-has_right_host-clause-found c =
    let some = c.in-Some-whole_request.ensures.some in
    found_by_spans c.args.max_head _ c.args.bytes.now c.in-Some.length c.whole_request.new.spans c.in-Some-whole_request.head
    c.has_right_host.result c.in-Some.ensures.front c.if-length-max_head.false
    (omega (arith, c.in-Some-whole_request.ensures.whole, length-take-le c.in-Some.length c.args.bytes.now c.in-Some.ensures.within))
    record { tree = some.0; reads = some.1; few = some.2; at_spans = some.3 }
    c.has_right_host.ensures c.if-has_right_host.true

pub returns-else-has_right_host-clause-found : goal.returns-else-has_right_host-clause-found
returns-else-has_right_host-clause-found c =
    let some = c.in-Some-whole_request.ensures.some in
    refused_by_host c.args.max_head _ c.args.bytes.now c.in-Some.length c.whole_request.new.spans c.in-Some-whole_request.head
    c.has_right_host.result c.in-Some.ensures.front c.if-length-max_head.false
    record { tree = some.0; reads = some.1; few = some.2; at_spans = some.3 }
    c.has_right_host.ensures c.if-has_right_host.false
