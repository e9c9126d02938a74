-- What is left to show of `accept_step`.
use Rattle.std.proofs.Common.{◌∙◌}
use Rattle.cy_accept.proofs.Again.{left_again}
use Rattle.cy_accept.proofs.accept.accept_step.Goals as goal

pub returns-in-NotYet-clause-latch : goal.returns-in-NotYet-clause-latch
returns-in-NotYet-clause-latch g c =
    let entered = c.in-Entered.ensures.turn in
    c.leave.ensures ∙ rw entered.2 (left_again c.args.latch.now c.in-Entered.share entered.0 entered.1)

pub returns-in-Failed-clause-latch : goal.returns-in-Failed-clause-latch
returns-in-Failed-clause-latch g c =
    let entered = c.in-Entered.ensures.turn in
    c.leave-in-Failed.ensures ∙ rw entered.2 (left_again c.args.latch.now c.in-Entered.share entered.0 entered.1)
