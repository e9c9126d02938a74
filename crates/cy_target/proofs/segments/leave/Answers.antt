-- What the tactics leave of the proof of `leave`.
use Rattle.std.proofs.Common.{arith, rules}
use Rattle.cy_target.proofs.WalkLemmas.{ends_there, goes_on}
use Rattle.cy_target.proofs.segments.leave.Goals as goal

pub returns-then-byte-eq47-clause-parent : goal.returns-then-byte-eq47-clause-parent
returns-then-byte-eq47-clause-parent c =
    ends_there c.loop-byte.path.items c.args.path.now.items c.pop.new.self.items c.in-Some.byte c.loop-byte.invariant.same c.in-Some.ensures.items c.if-byte-eq47.true

pub loop-byte-preserved : goal.loop-byte-preserved
loop-byte-preserved c = record {
  same = goes_on c.loop-byte.path.items c.args.path.now.items c.pop.new.self.items c.in-Some.byte c.loop-byte.invariant.same c.in-Some.ensures.items c.if-byte-eq47.false;
  size = omega arith;
  room = search rules;
}
