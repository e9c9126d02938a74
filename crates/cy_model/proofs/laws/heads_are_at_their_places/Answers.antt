-- The law `heads_are_at_their_places`, from the lemmas that show it.
use Rattle.cy_model.proofs.Places as shown
use Rattle.cy_model.proofs.laws.heads_are_at_their_places.Goals as goal

pub returns : goal.returns
returns c = shown.heads_are_at_their_places
