-- A head that is found is within its limits, and so within the room.
use Rattle.std.proofs.Common.{arith, length-take}
use Rattle.cy_head.proofs.HeadFronts.{found_tells}
use Rattle.cy_head.proofs.HeadTables.{size_within}
use Rattle.cy_head.proofs.front.read_front.Goals as goal

pub fill-requires-clause-room : goal.fill-requires-clause-room
fill-requires-clause-room c =
    let found = found_tells c.args.max_head _ c.args.bytes.now c.in-Head.head.len _ c.in-Head.ensures.found in
    omega (arith, found.within, length-take c.in-Head.head.len c.args.bytes.now)

pub fill-requires-clause-size : goal.fill-requires-clause-size
fill-requires-clause-size c =
    let found = found_tells c.args.max_head _ c.args.bytes.now c.in-Head.head.len _ c.in-Head.ensures.found in
    omega (arith, found.within, size_within c.args.max_head _ c.args.bytes.now c.in-Head.head.len _ c.in-Head.ensures.found)
