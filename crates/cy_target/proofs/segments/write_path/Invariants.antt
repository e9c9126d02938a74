-- What was written is the walk over what is gone, and there is room for the rest.
use Rattle.std.proofs.Common.{◌≡◌, ◌+◌, ◌≤◌, length, vec_len}
use Rattle.std.specs.Vec.{vec_capacity}
use Rattle.cy_target.proofs.WalkLemmas.{Walks}
use Rattle.cy_target.proofs.segments.write_path.Given as goal

abbrev pub invariant-loop-segment : goal.invariant-loop-segment
invariant-loop-segment l = record {
  walks : Walks l.path.items l.rest l.fn.raw;
  fits : vec_len l.path + length l.rest ≤ length l.fn.raw;
  room : vec_capacity l.path ≡ vec_capacity l.fn.path;
}

abbrev pub decreases-loop-segment : goal.decreases-loop-segment
decreases-loop-segment l = length l.rest
