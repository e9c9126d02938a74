-- What is left to show of `BodyOut::take`.
use Rattle.std.proofs.Common.{arith, ap, sym, subst, ◌≡◌, ℕ, ◌+◌, ◌-◌, ◌∙◌, false, List, length, take, drop, nat_lt, Option, None, Some, length-drop, length-take-le}
use Rattle.cy_event.specs.Answering.{Sending, Took, more_by, passes_length, push_bytes, with_bytes}
use Rattle.cy_out.specs.Kept.{CanFinish, answering_with}
use Rattle.cy_out.proofs.Pushes.{push_none, pushed_more, rest_fits, rest_is}
use Rattle.cy_out.proofs.body_out.BodyOut.take.Goals as goal

pub loop-taken-preserved : goal.loop-taken-preserved
loop-taken-preserved c =
    let l = c.loop-taken in
    let bytes = c.args.bytes.now in
    let n = c.fill-taken.result in
    let before = answering_with l.self l.kit in
    let roomy = answering_with c.make_room.new.self c.make_room.new.kit in
    let rest = drop l.taken bytes in
    let same : take (length bytes - l.taken) rest ≡ rest = rest_is bytes l.taken in
    let size = length-drop l.taken bytes in
    let whole : length (take (length bytes - l.taken) rest) ≡ length rest = ap length same in
    let filled : c.fill-taken.new.self ≡ with_bytes (take n rest) c.make_room.new.self
    = c.fill-taken.ensures.after ∙ ap (λ (xs : List ℕ). with_bytes (take n xs) c.make_room.new.self) same in
    let takes = sym c.make_room.ensures.answer ∙ c.if-not-make_room.false in
    let made = c.make_room.ensures.room c.if-not-make_room.false in
    let free = c.make_room.ensures.free c.if-not-make_room.false in
    let count = c.fill-taken.ensures.count in
    let more = pushed_more c.args.head.now c.args.at bytes (push_bytes c.args.head.now c.args.at bytes (answering_with c.args.self.now c.args.kit.now)) l.taken n before roomy
    (omega arith) (omega arith) (omega arith) free takes made l.invariant.rest in
    let front : length (take n rest) ≡ n = length-take-le n rest (omega arith) in
    let behind = length-drop (l.taken + n) bytes in
    let j = length (drop (l.taken + n) bytes) in
    let left : passes_length c.make_room.new.self (length rest) ≡ passes_length l.self (length rest) = ap (λ (o : Option ℕ). elim o [ None ↦ false | Some m ↦ nat_lt m (length rest) ]) c.make_room.ensures.left in
    let rest_passes = rest_fits c.make_room.new.self (take n rest) j (length rest) (omega arith) (left ∙ l.invariant.fits) in
    record {
      within = omega arith;
      rest = more ∙ ap (λ (s : Sending). more_by (l.taken + n) (push_bytes c.args.head.now c.args.at (drop (l.taken + n) bytes) (answering_with s c.make_room.new.kit))) (sym filled);
      fits = ap (λ (s : Sending). passes_length s j) filled ∙ rest_passes;
      input = c.make_room.ensures.input ∙ l.invariant.input;
      end = λ room. subst (λ (s : Sending). CanFinish (answering_with s c.make_room.new.kit)) (sym filled) (record { room = (c.make_room.ensures.end (l.invariant.end room)).room });
    }

pub returns-then-not-make_room-clause-count : goal.returns-then-not-make_room-clause-count
returns-then-not-make_room-clause-count c =
    let l = c.loop-taken in
    let none = push_none c.args.head.now c.args.at (drop l.taken c.args.bytes.now) (answering_with l.self l.kit) (sym c.make_room.ensures.answer ∙ c.if-not-make_room.true) in
    omega (arith, ap (λ (t : Took). t.count) (l.invariant.rest ∙ ap (more_by l.taken) none))

pub returns-then-not-make_room-clause-after : goal.returns-then-not-make_room-clause-after
returns-then-not-make_room-clause-after c =
    let l = c.loop-taken in
    let none = push_none c.args.head.now c.args.at (drop l.taken c.args.bytes.now) (answering_with l.self l.kit) (sym c.make_room.ensures.answer ∙ c.if-not-make_room.true) in
    c.make_room.ensures.unchanged c.if-not-make_room.true ∙ sym (ap (λ (t : Took). t.after) (l.invariant.rest ∙ ap (more_by l.taken) none))
