-- The law `paths_stay_below_the_root`, by what is proved of it elsewhere.
use Rattle.cy_target.proofs.LawLemmas.{paths_stay_below_the_root}
use Rattle.cy_target.proofs.laws.paths_stay_below_the_root.Goals as goal

pub returns : goal.returns
returns c = paths_stay_below_the_root
