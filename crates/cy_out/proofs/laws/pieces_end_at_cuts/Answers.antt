-- The law `pieces_end_at_cuts`, from the lemmas that show it.
use Rattle.cy_out.proofs.PieceEnds.{pieces_end_at_cuts}
use Rattle.cy_out.proofs.laws.pieces_end_at_cuts.Goals as goal

pub returns : goal.returns
returns c = pieces_end_at_cuts
