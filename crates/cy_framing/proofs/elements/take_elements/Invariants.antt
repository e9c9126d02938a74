-- What was remembered, and what is left adds to it, is what all lines add.
use Rattle.std.proofs.Common.{◌≡◌, drop}
use Rattle.std.specs.Prelude.{fold}
use Rattle.cy_event.specs.Heads.{values_of}
use Rattle.cy_event.specs.Framings.{elements_of}
use Rattle.cy_framing.proofs.elements.take_elements.Given as goal

abbrev pub invariant-loop-i : goal.invariant-loop-i
invariant-loop-i g l =
    fold g.T.Tally.after l.tally (elements_of (values_of l.name (drop l.i l.head.head.fields)))
    ≡ fold g.T.Tally.after l.fn.tally (elements_of (values_of l.name l.head.head.fields))
