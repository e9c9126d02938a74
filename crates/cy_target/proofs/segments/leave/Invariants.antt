-- The last slash is where it was.
use Rattle.std.proofs.Common.{◌≡◌, ◌≤◌, vec_len}
use Rattle.std.specs.Vec.{vec_capacity}
use Rattle.cy_target.specs.Reading.{parent_text}
use Rattle.cy_target.proofs.segments.leave.Given as goal

abbrev pub invariant-loop-byte : goal.invariant-loop-byte
invariant-loop-byte l = record {
  same : parent_text l.path.items ≡ parent_text l.fn.path.items;
  size : vec_len l.path ≤ vec_len l.fn.path;
  room : vec_capacity l.path ≡ vec_capacity l.fn.path;
}

abbrev pub decreases-loop-byte : goal.decreases-loop-byte
decreases-loop-byte l = vec_len l.path
