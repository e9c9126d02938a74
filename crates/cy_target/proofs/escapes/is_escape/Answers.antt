-- What the tactics leave of the proof of `is_escape`.
use Rattle.std.proofs.Common.{rules}
use Rattle.cy_target.proofs.EscapeLemmas.{escape_is}
use Rattle.cy_target.proofs.escapes.is_escape.Goals as goal

pub returns-in-Some-Some : goal.returns-in-Some-Some
returns-in-Some-Some c =
    rw c.may_be_escaped.ensures
    (escape_is c.args.high c.args.low c.in-Some-Some.high c.in-Some-Some.low (search rules) (search rules) (search rules) (search rules))
