-- The law `what_is_kept_is_untold`, from the lemmas that show it.
use Rattle.cy_poll.proofs.Untold.{keeps_untold}
use Rattle.cy_poll.proofs.laws.what_is_kept_is_untold.Goals as goal

pub returns : goal.returns
returns c = keeps_untold
