-- The law `runs_are_legal`, from the lemmas that show it.
use Rattle.cy_model.proofs.LegalRuns as legal
use Rattle.cy_model.proofs.laws.runs_are_legal.Goals as goal

pub returns : goal.returns
returns c = legal.runs_are_legal
