-- The lemmas on more bytes.
use Rattle.cy_head.proofs.HeadGrowth.{front_stays, heads_stay}
use Rattle.cy_head.proofs.laws.fronts_stay.Goals as goal

pub returns-clause-front : goal.returns-clause-front
returns-clause-front c = front_stays

pub returns-clause-head : goal.returns-clause-head
returns-clause-head c = heads_stay
