-- The law `all_calls_keep_the_head`, from the lemmas that show it.
use Rattle.cy_out.proofs.CallHeads.{all_calls_keep_the_head}
use Rattle.cy_out.proofs.laws.all_calls_keep_the_head.Goals as goal

pub returns : goal.returns
returns c = all_calls_keep_the_head
