-- The law `all_calls_write_what_is_cut`, from the lemmas that show it.
use Rattle.cy_out.proofs.CallsOneAnswer.{all_calls_write_what_is_cut}
use Rattle.cy_out.proofs.laws.all_calls_write_what_is_cut.Goals as goal

pub returns : goal.returns
returns c = all_calls_write_what_is_cut
