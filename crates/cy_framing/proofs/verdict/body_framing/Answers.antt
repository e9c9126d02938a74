-- What the tactics leave of the proof of `body_framing`.
use Rattle.std.proofs.Common.{◌∙◌, sym}
use Rattle.cy_framing.proofs.VerdictLemmas.{nothing_is_said, length_is_said, both_are_said, coding_is_said}
use Rattle.cy_framing.proofs.verdict.body_framing.Goals as goal

pub returns-then-has_length : goal.returns-then-has_length
returns-then-has_length c =
    c.length_framing.ensures
    ∙ length_is_said c.args.head.now.head.minor c.args.head.now.head.fields (sym c.has_field.ensures ∙ c.if-not-has_field.true)
    (sym c.has_field-has_length.ensures ∙ c.if-has_length.true)

pub returns-else-has_length : goal.returns-else-has_length
returns-else-has_length c =
    nothing_is_said c.args.head.now.head.minor c.args.head.now.head.fields (sym c.has_field.ensures ∙ c.if-not-has_field.true)
    (sym c.has_field-has_length.ensures ∙ c.if-has_length.false)

pub returns-then-has_length-2 : goal.returns-then-has_length-2
returns-then-has_length-2 c =
    both_are_said c.args.head.now.head.minor c.args.head.now.head.fields (sym c.has_field.ensures ∙ c.if-not-has_field.false)
    (sym c.has_field-has_length.ensures ∙ c.if-has_length-2.true)

pub returns : goal.returns
returns c =
    c.coding_framing.ensures
    ∙ coding_is_said c.args.head.now.head.minor c.args.head.now.head.fields (sym c.has_field.ensures ∙ c.if-not-has_field.false)
    (sym c.has_field-has_length.ensures ∙ c.if-has_length-2.false)
