-- What the tactics leave of the proof of `go_through`.
use Rattle.std.proofs.Common.{arith}
use Rattle.std.proofs.lemmas.Result.{err_from_is_err_and}
use Rattle.cy_target.proofs.WalkLemmas.{enters, stays, leaves, leaves_root}
use Rattle.cy_target.proofs.segments.go_through.Goals as goal

pub returns-in-Enter-clause-segment : goal.returns-in-Enter-clause-segment
returns-in-Enter-clause-segment c =
    enters c.args.path.now.items c.push_reserved.new.self.items c.args.raw.now c.without_parameters.result.now c.push_unescaped.new.path.items
    c.deref.result.now c.len-start.result c.move_of.result record {
      slash = c.push_reserved.ensures.items;
      sent_is = c.without_parameters.ensures.value;
      plain = c.in_ok-push_unescaped.ensures.bytes;
      x_is = c.deref.ensures.value;
      from = omega arith;
      moved = c.move_of.ensures;
    } c.in-Enter.is

pub returns-in-Stay-clause-segment : goal.returns-in-Stay-clause-segment
returns-in-Stay-clause-segment c =
    stays c.args.path.now.items c.push_reserved.new.self.items c.args.raw.now c.without_parameters.result.now c.push_unescaped.new.path.items
    c.deref.result.now c.len-start.result c.move_of.result c.truncate.new.self.items record {
      slash = c.push_reserved.ensures.items;
      sent_is = c.without_parameters.ensures.value;
      plain = c.in_ok-push_unescaped.ensures.bytes;
      x_is = c.deref.ensures.value;
      from = omega arith;
      moved = c.move_of.ensures;
    } c.in-Stay.is c.truncate.ensures.items

pub returns-in_ok-leave-in-Leave-clause-segment : goal.returns-in_ok-leave-in-Leave-clause-segment
returns-in_ok-leave-in-Leave-clause-segment c =
    leaves c.args.path.now.items c.push_reserved.new.self.items c.args.raw.now c.without_parameters.result.now c.push_unescaped.new.path.items
    c.deref.result.now c.len-start.result c.move_of.result c.truncate-in-Leave.new.self.items c.leave.new.path.items record {
      slash = c.push_reserved.ensures.items;
      sent_is = c.without_parameters.ensures.value;
      plain = c.in_ok-push_unescaped.ensures.bytes;
      x_is = c.deref.ensures.value;
      from = omega arith;
      moved = c.move_of.ensures;
    } c.in-Leave.is c.truncate-in-Leave.ensures.items
    c.in_ok-leave-in-Leave.ensures.parent

pub returns-in_err-leave-in-Leave-clause-segment : goal.returns-in_err-leave-in-Leave-clause-segment
returns-in_err-leave-in-Leave-clause-segment c =
    let refused = err_from_is_err_and c.from_residual-in_err-leave-in-Leave.result c.from_residual-in_err-leave-in-Leave.ensures.1 in
    rw refused.1
    (leaves_root c.args.path.now.items c.push_reserved.new.self.items c.args.raw.now c.without_parameters.result.now c.push_unescaped.new.path.items
    c.deref.result.now c.len-start.result c.move_of.result c.truncate-in-Leave.new.self.items record {
      slash = c.push_reserved.ensures.items;
      sent_is = c.without_parameters.ensures.value;
      plain = c.in_ok-push_unescaped.ensures.bytes;
      x_is = c.deref.ensures.value;
      from = omega arith;
      moved = c.move_of.ensures;
    } c.in-Leave.is c.truncate-in-Leave.ensures.items
    c.in_err-leave-in-Leave.ensures.parent)
