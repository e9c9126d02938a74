-- What is left to show of `Interests::sort_events`.
use Rattle.std.proofs.Common.{◌≡◌, List, false, ap, length, sym, ◌∙◌, arith}
use Rattle.std.proofs.lemmas.List.{length-replicate}
use Rattle.cy_poll.specs.declared.kinds.Note.{Note}
use Rattle.cy_poll.proofs.Ended.{all_written, front_given, given_below, no_marks, sorted_notes}
use Rattle.cy_poll.proofs.interests.Interests.sort_events.Goals as goal

pub invariant_of-self : goal.invariant_of-self
invariant_of-self c =
    let old : List Note = c.as_mut_slice-notes.result.now in
    let first = c.note_events-count.ensures in
    let then = c.end_waits.ensures in
    let fields = c.self.inside in
    let front = front_given old c.args.events.now c.note_events-count.new.into c.args.into.now c.note_events-count.result first.count first.given in
    let notes : length c.end_waits.new.notes ≡ length old = then.notes.places ∙ first.noted.places in
    let marks : length c.end_waits.new.marks ≡ length old = then.marks.places ∙ first.marks.places in
    let of_notes : length old ≡ fields.notes.len = ap length c.as_mut_slice-notes.ensures.value ∙ sym fields.notes.ok.0 in
    let of_marks : length old ≡ fields.marks.len =
    (let e = ap length c.self.invariant in let r = length-replicate (length fields.notes.items) false in let k = fields.marks.ok.0 in let n = fields.notes.ok.0 in omega (arith, e, r, k, n, of_notes)) in
    rw (all_written fields.marks.len c.end_waits.new.marks fields.marks.items (marks ∙ of_marks), all_written fields.notes.len c.end_waits.new.notes fields.notes.items (notes ∙ of_notes))
    (no_marks old c.args.events.now c.note_events-count.new.marks c.end_waits.new.marks (length c.end_waits.new.notes) notes first.marks (rw front at then.marks))

pub returns-clause-notes : goal.returns-clause-notes
returns-clause-notes c =
    let old : List Note = c.as_mut_slice-notes.result.now in
    let first = c.note_events-count.ensures in
    let then = c.end_waits.ensures in
    let fields = c.self.inside in
    let front = front_given old c.args.events.now c.note_events-count.new.into c.args.into.now c.note_events-count.result first.count first.given in
    let notes : length c.end_waits.new.notes ≡ fields.notes.len =
    then.notes.places ∙ first.noted.places ∙ ap length c.as_mut_slice-notes.ensures.value ∙ sym fields.notes.ok.0 in
    let same : c.args.self.now ≡ old = sym c.self.view_is ∙ sym c.as_mut_slice-notes.ensures.value in
    rw (all_written fields.notes.len c.end_waits.new.notes fields.notes.items notes, same)
    (sorted_notes old c.args.events.now c.note_events-count.new.notes c.end_waits.new.notes first.noted (rw front at then.notes))

pub returns-clause-turn : goal.returns-clause-turn
returns-clause-turn c =
    let old : List Note = c.as_mut_slice-notes.result.now in
    let first = c.note_events-count.ensures in
    let same : c.args.self.now ≡ old = sym c.self.view_is ∙ sym c.as_mut_slice-notes.ensures.value in (
      rw same (front_given old c.args.events.now c.note_events-count.new.into c.args.into.now c.note_events-count.result first.count first.given),
      returns-clause-notes c,
    )

pub returns-clause-places : goal.returns-clause-places
returns-clause-places c = (returns-clause-notes c).places

pub returns-clause-below : goal.returns-clause-below
returns-clause-below c =
    let old : List Note = c.as_mut_slice-notes.result.now in
    let first = c.note_events-count.ensures in
    let same : c.args.self.now ≡ old = sym c.self.view_is ∙ sym c.as_mut_slice-notes.ensures.value in
    rw (front_given old c.args.events.now c.note_events-count.new.into c.args.into.now c.note_events-count.result first.count first.given, same)
    (given_below old c.args.events.now)
