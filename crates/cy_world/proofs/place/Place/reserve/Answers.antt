-- What is left to show of `Place::reserve`: the ring of the input holds no more heads than bytes.
use Rattle.std.proofs.Common.{◌+◌, ◌-◌, ℕ, OnOk, Result, Ok, Err, ap, arith}
use Rattle.cy_event.specs.declared.no_memory.NoMemory.{NoMemory}
use Rattle.cy_rings.specs.declared.kit.TheConstants.{IN_CAPACITY}
use Rattle.cy_world.specs.Places.{PlaceParts, taken_at_most}
use Rattle.cy_world.proofs.Places.{asked_room}
use Rattle.cy_world.proofs.place.Place.reserve.Goals as goal

one_ok : {P R : Type 0} (r : Result (Unit {0}) NoMemory) → OnOk r P → (P → R) → OnOk r R
one_ok (Ok u) p f = f p
one_ok (Err e) p f = tt

pub returns-clause-room : goal.returns-clause-room
returns-clause-room c =
    let free : ℕ = c.in_room-waiting.result in
    one_ok c.get_chart_room.result c.get_chart_room.ensures.room (λ room.
    asked_room c.get_spare.new.self c.get_chart_room.new.self c.args.bytes free ((IN_CAPACITY - free) + taken_at_most c.args.bytes + 3)
    (ap (λ (p : PlaceParts). p.live) c.get_chart_room.ensures.same) c.get_chart_room.ensures.tenants c.in_room-waiting.ensures.held
    (omega arith) (omega (arith, room, c.min-coming.ensures)) c.in_ok-get_spare.ensures.left)
