-- The law `all_calls_make_one_answer`, from the lemmas that show it.
use Rattle.cy_out.proofs.CallsOneAnswer.{all_calls_make_one_answer}
use Rattle.cy_out.proofs.laws.all_calls_make_one_answer.Goals as goal

pub returns : goal.returns
returns c = all_calls_make_one_answer
