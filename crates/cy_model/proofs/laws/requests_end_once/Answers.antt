-- The law `requests_end_once`, from the lemmas that show it.
use Rattle.cy_model.proofs.Ends as shown
use Rattle.cy_model.proofs.laws.requests_end_once.Goals as goal

pub returns : goal.returns
returns c = shown.requests_end_once
