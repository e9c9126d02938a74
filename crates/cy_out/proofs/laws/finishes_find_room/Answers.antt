-- The law `finishes_find_room`, from the lemmas that show it.
use Rattle.cy_out.proofs.RoomKept.{finishes_find_room}
use Rattle.cy_out.proofs.laws.finishes_find_room.Goals as goal

pub returns : goal.returns
returns c = finishes_find_room
