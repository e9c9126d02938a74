-- What is left to show of `seats`.
use Rattle.std.proofs.Common.{All, arith, sym, subst}
use Rattle.std.proofs.lemmas.List.Elements.{All-push}
use Rattle.cy_world.specs.Answered.{IsVacant}
use Rattle.cy_world.proofs.Tenants.{pushed_none}
use Rattle.cy_world.proofs.world.seats.Goals as goal

pub loop-alloc-preserved : goal.loop-alloc-preserved
loop-alloc-preserved c = record {
  vacant = subst (All (IsVacant c.args.limits.now)) (sym c.push_reserved.ensures.items)
      (All-push (IsVacant c.args.limits.now) c.loop-alloc.seats.items c.in_ok-new.field-0 c.loop-alloc.invariant.vacant c.in_ok-new.ensures.vacant);
  unvisited = pushed_none c.loop-alloc.seats.items c.in_ok-new.field-0 c.push_reserved.new.self.items c.push_reserved.ensures.items c.loop-alloc.invariant.unvisited c.in_ok-new.ensures.unvisited;
  within = omega (arith, c.push_reserved.ensures.len, c.loop-alloc-test.true, c.len.ensures);
  room = omega (arith, c.push_reserved.ensures.capacity, c.loop-alloc.invariant.room);
}
