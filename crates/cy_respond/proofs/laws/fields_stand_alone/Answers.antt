-- The law `fields_stand_alone`, by what is proved of it elsewhere.
use Rattle.cy_respond.proofs.HeadEnds as heads
use Rattle.cy_respond.proofs.laws.fields_stand_alone.Goals as goal

pub returns : goal.returns
returns c = heads.fields_stand_alone
