-- What the loops of `quote` keep.
use Rattle.std.proofs.Common.{◌≡◌, take}
use Rattle.cy_bytes.specs.Quoting.{quoted}
use Rattle.cy_bytes.proofs.quoting.quote.Given as goal

abbrev pub invariant-loop-byte : goal.invariant-loop-byte
invariant-loop-byte l = l.text.items ≡ quoted (take l.byte-index l.bytes)
