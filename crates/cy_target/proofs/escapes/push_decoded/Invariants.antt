-- What was written and what is left are all the decoded bytes.
use Rattle.std.proofs.Common.{◌≡◌, ◌++◌}
use Rattle.std.specs.Vec.{vec_capacity}
use Rattle.percent_encoding.specs.Iter.{decoded_bytes}
use Rattle.percent_encoding.specs.Percent.{percent_decode}
use Rattle.cy_target.proofs.escapes.push_decoded.Given as goal

abbrev pub invariant-loop-byte : goal.invariant-loop-byte
invariant-loop-byte l = record {
  all : l.path.items ++ decoded_bytes l.byte-iterator ≡ l.fn.path.items ++ percent_decode l.fn.bytes;
  room : vec_capacity l.path ≡ vec_capacity l.fn.path;
}
