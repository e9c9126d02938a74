-- The law `charts_are_legal`, from the lemmas that show it.
use Rattle.cy_model.proofs.Histories as shown
use Rattle.cy_model.proofs.laws.charts_are_legal.Goals as goal

pub returns : goal.returns
returns c = shown.charts_are_legal
