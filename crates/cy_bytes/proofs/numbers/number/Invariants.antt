-- The digits so far are read.
use Rattle.cy_bytes.proofs.Digits.{Read}
use Rattle.cy_bytes.proofs.numbers.number.Given as goal

abbrev pub invariant-loop-byte : goal.invariant-loop-byte
invariant-loop-byte l = Read l.radix l.bytes l.value l.byte-index
