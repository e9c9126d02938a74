-- What is left to show of `note_events`.
use Rattle.std.proofs.Common.{false, sym, ◌∙◌, arith}
use Rattle.std.proofs.lemmas.List.{length-take, take_more}
use Rattle.cy_link.specs.declared.readiness.Ready.{Ready}
use Rattle.cy_poll.proofs.Noted.{given_noted, kept_noted}
use Rattle.cy_poll.proofs.interests.note_events.Goals as goal
use Rattle.cy_poll.proofs.interests.note_events.Goals.{then-note_event, else-note_event}

pub loop-event-preserved : goal.loop-event-preserved
loop-event-preserved c =
    let d : Ready = record { place = 0; read = false; write = false } in
    let i = c.loop-event.event-index in
    let more = take_more c.args.events.now i d c.loop-event-test.true in
    elim c.if-note_event.branch [
      | then-note_event w ↦
          rw (more, c.note_event.ensures.notes, c.note_event.ensures.marks, w.if-note_event.true, w.into-is, w.count-is)
          (given_noted _ _ _ _ _ _ _ _ c.loop-event.invariant (omega (arith, length-take i c.args.events.now, c.requires.room)) (sym c.note_event.ensures.given ∙ w.if-note_event.true))
      | else-note_event w ↦
          rw (more, c.note_event.ensures.notes, c.note_event.ensures.marks, w.if-note_event.false, w.into-is, w.count-is)
          (kept_noted _ _ _ _ _ _ _ _ c.loop-event.invariant (sym c.note_event.ensures.given ∙ w.if-note_event.false))
    ]
