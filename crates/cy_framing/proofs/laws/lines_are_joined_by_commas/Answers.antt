-- The law `lines_are_joined_by_commas`, by what is proved of it elsewhere.
use Rattle.cy_framing.proofs.LawLemmas.{lines_are_joined_by_commas}
use Rattle.cy_framing.proofs.laws.lines_are_joined_by_commas.Goals as goal

pub returns : goal.returns
returns c = lines_are_joined_by_commas
