-- What was remembered, and what is left adds to it, is what the whole line adds.
use Rattle.std.proofs.Common.{◌≡◌, length}
use Rattle.std.specs.Prelude.{fold}
use Rattle.cy_event.specs.Framings.{elements_in}
use Rattle.cy_framing.proofs.elements.take_elements_in.Given as goal

abbrev pub invariant-loop-rest : goal.invariant-loop-rest
invariant-loop-rest g l = fold g.T.Tally.after l.tally (elements_in l.rest) ≡ fold g.T.Tally.after l.fn.tally (elements_in l.value)

abbrev pub decreases-loop-rest : goal.decreases-loop-rest
decreases-loop-rest g l = length l.rest
