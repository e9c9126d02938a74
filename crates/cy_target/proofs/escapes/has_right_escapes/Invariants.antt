-- What is left decides.
use Rattle.std.proofs.Common.{◌≡◌, drop}
use Rattle.cy_target.proofs.EscapeLemmas.{escapes_right}
use Rattle.cy_target.proofs.escapes.has_right_escapes.Given as goal

abbrev pub invariant-loop-i : goal.invariant-loop-i
invariant-loop-i l = escapes_right l.bytes ≡ escapes_right (drop l.i l.bytes)
