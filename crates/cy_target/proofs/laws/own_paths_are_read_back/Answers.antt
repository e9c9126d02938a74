-- The law `own_paths_are_read_back`, by what is proved of it elsewhere.
use Rattle.cy_target.proofs.LawLemmas.{own_paths_are_read_back}
use Rattle.cy_target.proofs.laws.own_paths_are_read_back.Goals as goal

pub returns : goal.returns
returns c = own_paths_are_read_back
