-- Two bytes or more are more than a CR.
use Rattle.cy_head.proofs.HeadReads.{long_line}
use Rattle.cy_head.proofs.due.is_line_end.Goals as goal

pub returns-in_default : goal.returns-in_default
returns-in_default c = long_line c.args.line.now c.in_default.len_at_least
