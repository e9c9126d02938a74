-- What the tactics leave of the proof of `take_elements_in`.
use Rattle.std.proofs.Common.{◌∙◌, sym, ap, true, false, refl}
use Rattle.cy_event.specs.Heads.{trimmed}
use Rattle.cy_framing.proofs.ElementLemmas.{taken, empty_is, none_left}
use Rattle.cy_framing.proofs.elements.take_elements_in.Goals as goal

pub loop-rest-preserved-then-not-is_empty : goal.loop-rest-preserved-then-not-is_empty
loop-rest-preserved-then-not-is_empty g c =
    taken g.T.Tally.after c.loop-rest.tally c.take.new.self c.loop-rest.rest.now c.without_blanks-element.result.now c.first_part.result.1.now false
    (c.without_blanks-element.ensures.value ∙ ap trimmed c.first_part.ensures.part) c.first_part.ensures.later
    (empty_is c.without_blanks-element.result.now c.is_empty-in-loop-rest.result false c.is_empty-in-loop-rest.ensures c.if-not-is_empty.true) c.take.ensures
    ∙ c.loop-rest.invariant

pub loop-rest-preserved : goal.loop-rest-preserved
loop-rest-preserved g c =
    taken g.T.Tally.after c.loop-rest.tally c.loop-rest.tally c.loop-rest.rest.now c.without_blanks-element.result.now c.first_part.result.1.now true
    (c.without_blanks-element.ensures.value ∙ ap trimmed c.first_part.ensures.part) c.first_part.ensures.later
    (empty_is c.without_blanks-element.result.now c.is_empty-in-loop-rest.result true c.is_empty-in-loop-rest.ensures c.if-not-is_empty.false) refl
    ∙ c.loop-rest.invariant

pub returns : goal.returns
returns g c =
    sym (none_left g.T.Tally.after c.loop-rest.tally c.loop-rest.rest.now (empty_is c.loop-rest.rest.now c.is_empty.result true c.is_empty.ensures c.loop-rest-test.false))
    ∙ c.loop-rest.invariant
