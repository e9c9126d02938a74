-- The law `slots_stand_in_no_reply`, from the lemmas that show it.
use Rattle.cy_world.proofs.Alike.{recycled_slots_answer_as_fresh, slots_stand_in_no_reply}
use Rattle.cy_world.proofs.laws.slots_stand_in_no_reply.Goals as goal

pub returns-clause-steps : goal.returns-clause-steps
returns-clause-steps c = slots_stand_in_no_reply

pub returns-clause-recycled : goal.returns-clause-recycled
returns-clause-recycled c = recycled_slots_answer_as_fresh
