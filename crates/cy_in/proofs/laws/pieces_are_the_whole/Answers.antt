-- By induction on the first piece.
use Rattle.cy_in.proofs.Joins.{scan_join, content_join}
use Rattle.cy_in.proofs.laws.pieces_are_the_whole.Goals as goal

pub returns : goal.returns
returns c max m xs ys = record { mark = scan_join max m xs ys; content = content_join max m xs ys }
