-- The law `both_fields_are_refused`, by what is proved of it elsewhere.
use Rattle.cy_framing.proofs.LawLemmas.{both_fields_are_refused}
use Rattle.cy_framing.proofs.laws.both_fields_are_refused.Goals as goal

pub returns : goal.returns
returns c = both_fields_are_refused
