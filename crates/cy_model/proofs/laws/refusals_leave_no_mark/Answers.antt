-- The law `refusals_leave_no_mark`, from the lemmas that show it.
use Rattle.cy_model.proofs.Refusals as shown
use Rattle.cy_model.proofs.laws.refusals_leave_no_mark.Goals as goal

pub returns : goal.returns
returns c = shown.refusals_leave_no_mark
