-- The law `all_calls_frame_alike`, from the lemmas that show it.
use Rattle.cy_out.proofs.CallsFramedAlike.{all_calls_frame_alike}
use Rattle.cy_out.proofs.laws.all_calls_frame_alike.Goals as goal

pub returns : goal.returns
returns c = all_calls_frame_alike
