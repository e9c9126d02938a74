-- The law `all_calls_are_read`, from the lemmas that show it.
use Rattle.cy_out.proofs.CallsOneAnswer.{all_calls_are_read}
use Rattle.cy_out.proofs.laws.all_calls_are_read.Goals as goal

pub returns : goal.returns
returns c = all_calls_are_read
