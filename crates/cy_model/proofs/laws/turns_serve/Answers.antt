-- The law `turns_serve`, from the lemmas that show it.
use Rattle.cy_model.proofs.Turns as shown
use Rattle.cy_model.proofs.laws.turns_serve.Goals as goal

pub returns : goal.returns
returns c = shown.turns_serve
