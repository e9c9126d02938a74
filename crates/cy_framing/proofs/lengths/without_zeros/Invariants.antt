-- What is left decides.
use Rattle.std.proofs.Common.{◌≡◌, length}
use Rattle.cy_framing.specs.Lists.{without_zeros}
use Rattle.cy_framing.proofs.lengths.without_zeros.Given as goal

abbrev pub invariant-loop-digits : goal.invariant-loop-digits
invariant-loop-digits l = without_zeros l.digits ≡ without_zeros l.element

abbrev pub decreases-loop-digits : goal.decreases-loop-digits
decreases-loop-digits l = length l.digits
