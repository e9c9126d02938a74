-- What is left decides.
use Rattle.std.proofs.Common.{◌≡◌, length}
use Rattle.cy_event.specs.Heads.{skip_blanks}
use Rattle.cy_framing.proofs.elements.without_blanks_before.Given as goal

abbrev pub invariant-loop-text : goal.invariant-loop-text
invariant-loop-text l = skip_blanks l.text ≡ skip_blanks l.part

abbrev pub decreases-loop-text : goal.decreases-loop-text
decreases-loop-text l = length l.text
