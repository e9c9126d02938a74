-- What is left to show of `end_waits`.
use Rattle.std.proofs.lemmas.List.{take_more}
use Rattle.cy_poll.proofs.Ended.{more_ended, none_ended}
use Rattle.cy_poll.proofs.interests.end_waits.Goals as goal

pub loop-place-init : goal.loop-place-init
loop-place-init c = none_ended c.args.notes.now c.args.marks.now

pub loop-place-preserved : goal.loop-place-preserved
loop-place-preserved c =
    rw (take_more c.args.places.now c.loop-place.place-index 0 c.loop-place-test.true, c.end_wait.ensures.notes, c.end_wait.ensures.marks)
    (more_ended _ _ _ _ _ _ c.loop-place.invariant)
