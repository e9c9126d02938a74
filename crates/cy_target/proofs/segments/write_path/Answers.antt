-- What the tactics leave of the proof of `write_path`.
use Rattle.std.proofs.Common.{arith, rules}
use Rattle.std.proofs.lemmas.Result.{err_from_is_err_and}
use Rattle.cy_target.proofs.WalkLemmas.{walk_goes_on, walk_fails, walk_ends, walk_fails_last, ends_in_slash, ends_in_name}
use Rattle.cy_target.proofs.segments.write_path.Goals as goal

pub returns-in_err-go_through-clause-path : goal.returns-in_err-go_through-clause-path
returns-in_err-go_through-clause-path c =
    let refused = err_from_is_err_and c.from_residual.result c.from_residual.ensures.1 in
    rw refused.1
    (walk_fails c.loop-segment.path.items c.loop-segment.rest.now c.args.raw.now c.in-Some.segment.now c.in-Some.more.now
    c.loop-segment.invariant.walks c.in-Some.ensures.parts c.in_err-go_through.ensures.segment)

pub loop-segment-preserved : goal.loop-segment-preserved
loop-segment-preserved c = record {
  walks =
      walk_goes_on c.loop-segment.path.items c.loop-segment.rest.now c.args.raw.now c.in-Some.segment.now c.in-Some.more.now
      c.go_through.new.path.items c.in_ok-go_through.field-0 c.loop-segment.invariant.walks c.in-Some.ensures.parts c.in_ok-go_through.ensures.segment;
  fits = omega (arith, c.in-Some.ensures.lengths, c.in_ok-go_through.ensures.size);
  room = search rules;
}

pub returns-in_err-go_through-2-clause-path : goal.returns-in_err-go_through-2-clause-path
returns-in_err-go_through-2-clause-path c =
    let refused = err_from_is_err_and c.from_residual-in_err-go_through-2.result c.from_residual-in_err-go_through-2.ensures.1 in
    rw refused.1
    (walk_fails_last c.loop-segment.path.items c.loop-segment.rest.now c.args.raw.now c.loop-segment.invariant.walks c.in_default.ensures.parts
    c.in_err-go_through-2.ensures.segment)

pub returns-then-branch-clause-path : goal.returns-then-branch-clause-path
returns-then-branch-clause-path c =
    ends_in_slash c.args.raw.now c.go_through-2.new.path.items c.push_reserved.new.self.items c.in_ok-go_through-2.field-0
    (walk_ends c.loop-segment.path.items c.loop-segment.rest.now c.args.raw.now c.go_through-2.new.path.items c.in_ok-go_through-2.field-0
    c.loop-segment.invariant.walks c.in_default.ensures.parts c.in_ok-go_through-2.ensures.segment)
    c.if-branch.true c.push_reserved.ensures.items

pub returns-else-branch-clause-path : goal.returns-else-branch-clause-path
returns-else-branch-clause-path c =
    ends_in_name c.args.raw.now c.go_through-2.new.path.items c.in_ok-go_through-2.field-0
    (walk_ends c.loop-segment.path.items c.loop-segment.rest.now c.args.raw.now c.go_through-2.new.path.items c.in_ok-go_through-2.field-0
    c.loop-segment.invariant.walks c.in_default.ensures.parts c.in_ok-go_through-2.ensures.segment)
    c.if-branch.false
