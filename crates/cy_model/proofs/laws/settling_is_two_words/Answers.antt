-- The law `settling_is_two_words`, from the lemmas that show it.
use Rattle.cy_model.proofs.Settlings.{rested_and_taken_up-settled}
use Rattle.cy_model.proofs.laws.settling_is_two_words.Goals as goal

pub returns : goal.returns
returns c = rested_and_taken_up-settled
