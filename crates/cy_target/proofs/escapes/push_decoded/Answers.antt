-- What the tactics leave of the proof of `push_decoded`.
use Rattle.std.proofs.Common.{arith}
use Rattle.std.specs.Vec.{vec_capacity}
use Rattle.percent_encoding.specs.Iter.{decoded_bytes}
use Rattle.cy_target.proofs.EscapeLemmas.{has_room}
use Rattle.cy_target.proofs.escapes.push_decoded.Goals as goal

pub push_reserved-requires : goal.push_reserved-requires
push_reserved-requires c =
    let room = has_room c.loop-byte.path.items (decoded_bytes c.loop-byte.byte-iterator) c.args.path.now.items c.args.bytes.now
    (decoded_bytes c.next.new.self) c.in-Some.byte (vec_capacity c.args.path.now) c.loop-byte.invariant.all c.in-Some.ensures.steps (omega arith) in
    omega (arith, room)
