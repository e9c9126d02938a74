-- What is left to show of `World::new`.
use Rattle.std.proofs.Common.{[], sym, subst}
use Rattle.cy_world.specs.Faults.{IsFaultOf}
use Rattle.cy_world.proofs.Beginning.{begins_as, fault_is}
use Rattle.cy_world.proofs.world.World.new.Goals as goal

pub returns-in-Err-clause-fault : goal.returns-in-Err-clause-fault
returns-in-Err-clause-fault c =
    subst (IsFaultOf c.args.rules.now) (sym c.of.ensures) (fault_is c.args.rules.now c.new.result c.in-Err.fault c.in-Err.is c.new.ensures.bad_pattern c.new.ensures.rule_twice)

pub invariant_of-result : goal.invariant_of-result
invariant_of-result c =
    ([], begins_as _ c.in-Ok-seats.seats.items c.in-Ok-new.latch c.new-3.result.entries c.in-Ok-seats.ensures.vacant c.in-Ok-seats.ensures.unvisited c.in-Ok-seats.ensures.count c.in-Ok-new.ensures c.new-3.ensures.empty)

pub returns-clause-stands : goal.returns-clause-stands
returns-clause-stands c =
    begins_as _ c.in-Ok-seats.seats.items c.in-Ok-new.latch c.new-3.result.entries c.in-Ok-seats.ensures.vacant c.in-Ok-seats.ensures.unvisited c.in-Ok-seats.ensures.count c.in-Ok-new.ensures c.new-3.ensures.empty
