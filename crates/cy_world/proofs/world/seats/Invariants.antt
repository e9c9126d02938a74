-- What the loop of `seats` keeps.
use Rattle.std.proofs.Common.{◌≡◌, ◌-◌, ◌≤◌, All, vec_len, vec_capacity}
use Rattle.cy_world.specs.Answered.{IsVacant}
use Rattle.cy_world.specs.Counts.{tenancies}
use Rattle.cy_world.proofs.world.seats.Given as goal

abbrev pub decreases-loop-alloc : goal.decreases-loop-alloc
decreases-loop-alloc l = l.count - vec_len l.seats

abbrev pub invariant-loop-alloc : goal.invariant-loop-alloc
invariant-loop-alloc l = record {
  vacant : All (IsVacant l.limits) l.seats.items;
  unvisited : tenancies l.seats.items ≡ 0;
  within : vec_len l.seats ≤ l.count;
  room : l.count ≤ vec_capacity l.seats;
}
