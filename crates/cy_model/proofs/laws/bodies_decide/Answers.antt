-- The law `bodies_decide`, from the lemmas that show it.
use Rattle.cy_model.proofs.BodyCauses as shown
use Rattle.cy_model.proofs.laws.bodies_decide.Goals as goal

pub returns : goal.returns
returns c = shown.bodies_decide
