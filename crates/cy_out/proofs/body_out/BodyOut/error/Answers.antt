-- What is left to show of `BodyOut::error`.
use Rattle.std.proofs.Common.{rules}
use Rattle.cy_out.proofs.ErrorHeads.{error_head_is}
use Rattle.cy_out.proofs.body_out.BodyOut.error.Goals as goal

pub returns-clause-head : goal.returns-clause-head
returns-clause-head c = search (rules, error_head_is c.args.status)
