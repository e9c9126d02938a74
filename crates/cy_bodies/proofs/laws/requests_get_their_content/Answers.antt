-- The law `requests_get_their_content`, from the lemmas that show it.
use Rattle.cy_bodies.proofs.GivenContent as shown
use Rattle.cy_bodies.proofs.laws.requests_get_their_content.Goals as goal

pub returns : goal.returns
returns c = shown.requests_get_their_content
