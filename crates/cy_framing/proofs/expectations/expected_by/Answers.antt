-- What the tactics leave of the proof of `expected_by`.
use Rattle.std.proofs.Common.{codes}
use Rattle.cy_event.specs.Heads.{values_of}
use Rattle.cy_event.specs.Framings.{elements_of}
use Rattle.cy_framing.proofs.WordLemmas.{go_on_is, other_is}
use Rattle.cy_framing.proofs.expectations.expected_by.Goals as goal

pub returns-then-minor-ne0-clause-go_on : goal.returns-then-minor-ne0-clause-go_on
returns-then-minor-ne0-clause-go_on c =
    go_on_is c.args.head.now.head.minor c.minor.result (elements_of (values_of (codes "Expect") c.args.head.now.head.fields)) c.take_elements.new.tally
    c.minor.ensures.value c.if-minor-ne0.true c.take_elements.ensures

pub returns-then-minor-ne0-clause-other : goal.returns-then-minor-ne0-clause-other
returns-then-minor-ne0-clause-other c =
    other_is c.args.head.now.head.minor c.minor.result (elements_of (values_of (codes "Expect") c.args.head.now.head.fields)) c.take_elements.new.tally
    c.minor.ensures.value c.if-minor-ne0.true c.take_elements.ensures
