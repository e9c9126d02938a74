-- The law `wrong_bodies_close`, from the lemmas that show it.
use Rattle.cy_bodies.proofs.Closes as shown
use Rattle.cy_bodies.proofs.laws.wrong_bodies_close.Goals as goal

pub returns : goal.returns
returns c = shown.wrong_bodies_close
