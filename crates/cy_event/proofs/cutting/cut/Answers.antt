-- The place that was found is that of the definition's cut.
use Rattle.cy_event.proofs.Cuts.{cut_at_place, cut_at_no_place}
use Rattle.cy_event.proofs.cutting.cut.Goals as goal

pub returns-in_err-place-clause-parts : goal.returns-in_err-place-clause-parts
returns-in_err-place-clause-parts c = rw c.from_residual.ensures (cut_at_no_place c.args.byte c.args.text.now c.in_err-place.ensures.place)

pub returns-clause-parts : goal.returns-clause-parts
returns-clause-parts c = cut_at_place c.args.byte c.args.text.now c.in_ok-place.place c.in_ok-place.ensures.place
