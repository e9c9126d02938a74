-- The law `latch_counts_its_shares`, from the lemmas that show it.
use Rattle.cy_latch.proofs.Counted.{latch_counts}
use Rattle.cy_latch.proofs.laws.latch_counts_its_shares.Goals as goal

pub returns : goal.returns
returns c = latch_counts
