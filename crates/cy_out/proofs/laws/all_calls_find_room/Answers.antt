-- The law `all_calls_find_room`, from the lemmas that show it.
use Rattle.cy_out.proofs.CallsFindRoom.{all_calls_find_room}
use Rattle.cy_out.proofs.laws.all_calls_find_room.Goals as goal

pub returns : goal.returns
returns c = all_calls_find_room
