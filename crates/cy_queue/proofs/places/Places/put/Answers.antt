-- What is left to show of `Places::put`.
use Rattle.std.proofs.Common.{rules, ◌≡◌, ◌<◌, false, length, get_or}
use Rattle.cy_queue.proofs.Marks.{marks_more, marks_room}
use Rattle.cy_queue.proofs.places.Places.put.Goals as goal

pub push_back_reserved-requires : goal.push_back_reserved-requires
push_back_reserved-requires c =
    let marks = c.self.inside.is_waiting.items in
    let below : c.args.place < length marks = search rules in
    let idle : get_or marks c.args.place false ≡ false = search rules in
    let room = marks_room marks c.self.inside.waiting.items _ c.args.place c.self.invariant below idle in
    search rules

pub invariant_of-self : goal.invariant_of-self
invariant_of-self c =
    let marks = c.self.inside.is_waiting.items in
    let below : c.args.place < length marks = search rules in
    let idle : get_or marks c.args.place false ≡ false = search rules in
    rw (c.push_back_reserved.ensures.items, c.push_back_reserved.ensures.capacity) (marks_more marks c.self.inside.waiting.items _ c.args.place c.self.invariant below idle)
