-- What the tactics leave of the proof of `take_elements`.
use Rattle.std.proofs.Common.{◌∙◌, sym}
use Rattle.cy_event.specs.Heads.{Field}
use Rattle.cy_framing.proofs.ElementLemmas.{line_taken, line_passed}
use Rattle.cy_framing.proofs.elements.take_elements.Goals as goal
use Rattle.cy_framing.proofs.elements.take_elements.Goals.{then-is_word, else-is_word}

pub loop-i-preserved : goal.loop-i-preserved
loop-i-preserved g c =
    let field : Field = record { name = c.field.result.0.now; value = c.field.result.1.now } in
    elim c.if-is_word.branch [
      | then-is_word w ↦ rw w.tally-is
          (line_taken g.T.Tally.after c.loop-i.tally w.take_elements_in.new.tally c.args.name.now c.args.head.now.head.fields c.loop-i.i field c.field.ensures
          (sym c.is_word.ensures ∙ w.if-is_word.true) w.take_elements_in.ensures ∙ c.loop-i.invariant)
      | else-is_word w ↦ rw w.tally-is
          (line_passed g.T.Tally.after c.loop-i.tally c.args.name.now c.args.head.now.head.fields c.loop-i.i field c.field.ensures
          (sym c.is_word.ensures ∙ w.if-is_word.false) ∙ c.loop-i.invariant)
    ]
