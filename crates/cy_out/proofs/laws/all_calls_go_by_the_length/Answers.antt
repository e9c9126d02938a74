-- The law `all_calls_go_by_the_length`, from the lemmas that show it.
use Rattle.cy_out.proofs.CallsOneAnswer.{all_calls_go_by_the_length}
use Rattle.cy_out.proofs.laws.all_calls_go_by_the_length.Goals as goal

pub returns : goal.returns
returns c = all_calls_go_by_the_length
