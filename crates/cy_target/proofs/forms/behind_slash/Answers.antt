-- What the tactics leave of the proof of `behind_slash`.
use Rattle.std.proofs.Common.{sym}
use Rattle.cy_target.proofs.FormLemmas.{absolute_is}
use Rattle.cy_target.proofs.forms.behind_slash.Goals as goal

pub returns-in-Some-default-clause-value : goal.returns-in-Some-default-clause-value
returns-in-Some-default-clause-value c =
    rw (c.without_slash.ensures.value, c.after_authority.ensures.value)
    (sym (absolute_is c.args.target.now c.in-Some-default.rest.now (sym c.in-Some-default.ensures.value)))
