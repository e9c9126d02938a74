-- What stands behind the part that is written stays.
use Rattle.std.proofs.Common.{arith}
use Rattle.std.proofs.lemmas.Slice.{drop-put_mid}
use Rattle.cy_in.proofs.marks.put_at.Goals as goal

pub returns-clause-behind : goal.returns-clause-behind
returns-clause-behind c = grind (arith, drop-put_mid)
