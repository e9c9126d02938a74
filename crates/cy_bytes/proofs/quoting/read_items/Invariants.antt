-- What the loops of `read_items` keep.
use Rattle.std.proofs.Common.{◌≡◌, ◌+◌, ◌≤◌, length, vec_len}
use Rattle.std.specs.Vec.{vec_capacity}
use Rattle.cy_bytes.proofs.Texts.{read_all, with_front}
use Rattle.cy_bytes.proofs.quoting.read_items.Given as goal

-- There is room for the bytes of the rest, and the bytes so far with those of the rest are those of the whole text.
abbrev pub invariant-loop-rest : goal.invariant-loop-rest
invariant-loop-rest l = record {
  room : vec_len l.bytes + length l.rest ≤ vec_capacity l.bytes;
  within : length l.rest ≤ length l.inner;
  so_far : with_front l.bytes.items (read_all l.rest) ≡ read_all l.inner;
}

abbrev pub decreases-loop-rest : goal.decreases-loop-rest
decreases-loop-rest l = length l.rest
