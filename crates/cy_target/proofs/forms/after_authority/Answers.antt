-- What the tactics leave of the proof of `after_authority`.
use Rattle.cy_target.proofs.FormLemmas.{authority_ends, authority_is_all}
use Rattle.cy_target.proofs.forms.after_authority.Goals as goal

pub returns-in-Some-clause-value : goal.returns-in-Some-clause-value
returns-in-Some-clause-value c = authority_ends c.args.rest.now c.in-Some.end c.in-Some.ensures.place

pub returns-in-None-clause-value : goal.returns-in-None-clause-value
returns-in-None-clause-value c = authority_is_all c.args.rest.now c.in-None.ensures.place
