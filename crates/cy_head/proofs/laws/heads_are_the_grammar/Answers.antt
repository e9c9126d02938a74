-- The lemmas on `head_of` and on the front.
use Rattle.cy_head.proofs.HeadFronts.{heads_are, heads_are_awaited}
use Rattle.cy_head.proofs.HeadShortest.{fronts_are}
use Rattle.cy_head.proofs.laws.heads_are_the_grammar.Goals as goal

pub returns-clause-found : goal.returns-clause-found
returns-clause-found c = heads_are

pub returns-clause-awaited : goal.returns-clause-awaited
returns-clause-awaited c = heads_are_awaited

pub returns-clause-front : goal.returns-clause-front
returns-clause-front c = fronts_are
