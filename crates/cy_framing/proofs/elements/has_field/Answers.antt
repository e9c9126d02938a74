-- What the tactics leave of the proof of `has_field`.
use Rattle.std.proofs.Common.{◌∙◌, sym}
use Rattle.cy_event.specs.Heads.{Field}
use Rattle.cy_framing.proofs.ElementLemmas.{named_there, not_named_there}
use Rattle.cy_framing.proofs.elements.has_field.Goals as goal

pub returns-then-is_word : goal.returns-then-is_word
returns-then-is_word c =
    let field : Field = record { name = c.field.result.0.now; value = c.field.result.1.now } in
    sym (c.loop-i.invariant
    ∙ named_there c.args.name.now c.args.head.now.head.fields c.loop-i.i field c.field.ensures (sym c.is_word.ensures ∙ c.if-is_word.true))

pub loop-i-preserved : goal.loop-i-preserved
loop-i-preserved c =
    let field : Field = record { name = c.field.result.0.now; value = c.field.result.1.now } in
    c.loop-i.invariant
    ∙ not_named_there c.args.name.now c.args.head.now.head.fields c.loop-i.i field c.field.ensures (sym c.is_word.ensures ∙ c.if-is_word.false)
