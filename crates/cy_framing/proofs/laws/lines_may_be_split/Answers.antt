-- The law `lines_may_be_split`, by what is proved of it elsewhere.
use Rattle.cy_framing.proofs.LawLemmas.{lines_may_be_split}
use Rattle.cy_framing.proofs.laws.lines_may_be_split.Goals as goal

pub returns : goal.returns
returns c = lines_may_be_split
