-- No head is due exactly where one is awaited.
use Rattle.std.proofs.Common.{rules}
use Rattle.cy_head.proofs.HeadDue.{wait_is_awaited}
use Rattle.cy_head.proofs.due.head_due.Goals as goal

pub returns-in-Some-clause-wait : goal.returns-in-Some-clause-wait
returns-in-Some-clause-wait c =
    wait_is_awaited c.args.limits.now.max_head c.args.limits.now.max_fields c.args.bytes.now _ (search rules)

pub returns-in-None-clause-wait : goal.returns-in-None-clause-wait
returns-in-None-clause-wait c =
    wait_is_awaited c.args.limits.now.max_head c.args.limits.now.max_fields c.args.bytes.now _ (search rules)

pub returns-in-None-2-clause-wait : goal.returns-in-None-2-clause-wait
returns-in-None-2-clause-wait c =
    wait_is_awaited c.args.limits.now.max_head c.args.limits.now.max_fields c.args.bytes.now _ (search rules)
