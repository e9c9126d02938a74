-- By induction on the bytes.
use Rattle.cy_in.proofs.Gives.{given_is}
use Rattle.cy_in.proofs.laws.content_is_given_in_order.Goals as goal

pub returns : goal.returns
returns c max n m bytes = given_is max n m bytes
