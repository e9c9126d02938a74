-- The law `requests_are_kept`, from the lemmas that show it.
use Rattle.cy_out.proofs.RequestsKept.{requests_are_kept}
use Rattle.cy_out.proofs.laws.requests_are_kept.Goals as goal

pub returns : goal.returns
returns c = requests_are_kept
