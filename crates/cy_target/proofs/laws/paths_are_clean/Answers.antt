-- The law `paths_are_clean`, by what is proved of it elsewhere.
use Rattle.cy_target.proofs.LawLemmas.{paths_are_clean}
use Rattle.cy_target.proofs.laws.paths_are_clean.Goals as goal

pub returns : goal.returns
returns c = paths_are_clean
