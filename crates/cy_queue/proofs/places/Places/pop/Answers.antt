-- What is left to show of `Places::pop`.
use Rattle.std.proofs.Common.{rules, ◌<◌, ◌∷◌, length, deque_capacity, sym}
use Rattle.cy_queue.specs.Marks.{AreMarked}
use Rattle.cy_queue.proofs.Marks.{marks_less, waits_below, first_waits}
use Rattle.cy_queue.proofs.places.Places.pop.Goals as goal

pub index_mut-requires : goal.index_mut-requires
index_mut-requires c =
    let marks = c.self.inside.is_waiting.items in
    let place = c.in_ok-place.place in
    let rest = c.pop_front.new.self.items in
    let marked : AreMarked marks (place ∷ rest) (deque_capacity c.self.inside.waiting) = rw (sym c.in_ok-place.ensures.items) c.self.invariant in
    let below : place < length marks = waits_below marks (place ∷ rest) (deque_capacity c.self.inside.waiting) place marked (first_waits place rest) in
    search rules

pub invariant_of-self-2 : goal.invariant_of-self-2
invariant_of-self-2 c =
    let marks = c.self.inside.is_waiting.items in
    let place = c.in_ok-place.place in
    let rest = c.pop_front.new.self.items in
    let marked : AreMarked marks (place ∷ rest) (deque_capacity c.self.inside.waiting) = rw (sym c.in_ok-place.ensures.items) c.self.invariant in
    rw c.pop_front.ensures.capacity (marks_less marks place rest (deque_capacity c.self.inside.waiting) marked)
