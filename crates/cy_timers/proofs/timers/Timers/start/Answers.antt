-- What is left to show of `Timers::start`.
use Rattle.std.proofs.Common.{◌≡◌, ◌<◌, ℕ, Option, None, List, length, get_or, vec_capacity, sym, ap, ◌∙◌, subst, arith}
use Rattle.cy_timers.specs.declared.timers.Timer.{Timer}
use Rattle.cy_timers.specs.Order.{IsRank}
use Rattle.cy_timers.proofs.Changes.{queue_in_order, queue_set, room_to_set}
use Rattle.cy_timers.proofs.timers.Timers.start.Goals as goal

pub rank-rank-requires : goal.rank-rank-requires
rank-rank-requires c =
    rw c.deref.ensures.value (queue_in_order c.self.inside.deadlines.items c.self.inside.queue.items (vec_capacity c.self.inside.queue) c.self.invariant)

pub unreachable-requires : goal.unreachable-requires
unreachable-requires c =
    let deadlines : List (Option ℕ) = c.self.inside.deadlines.items in
    let below : c.args.timer.place < length deadlines = subst (λ (l : List (Option ℕ)). c.args.timer.place < length l) (sym c.self.view_is) c.requires.below in
    let idle : get_or deadlines c.args.timer.place None ≡ None = ap (λ (l : List (Option ℕ)). get_or l c.args.timer.place None) c.self.view_is ∙ c.requires.idle in
    let room = room_to_set deadlines c.self.inside.queue.items (vec_capacity c.self.inside.queue) c.args.timer.place c.self.invariant below idle in
    omega (arith, room, c.in-Err.ensures.full, c.self.inside.queue.ok)

pub invariant_of-self : goal.invariant_of-self
invariant_of-self c =
    let deadlines : List (Option ℕ) = c.self.inside.deadlines.items in
    let below : c.args.timer.place < length deadlines = subst (λ (l : List (Option ℕ)). c.args.timer.place < length l) (sym c.self.view_is) c.requires.below in
    let idle : get_or deadlines c.args.timer.place None ≡ None = ap (λ (l : List (Option ℕ)). get_or l c.args.timer.place None) c.self.view_is ∙ c.requires.idle in
    let rank = subst (λ (l : List Timer). IsRank c.args.timer l c.rank-rank.result) c.deref.ensures.value c.rank-rank.ensures in
    let room = room_to_set deadlines c.self.inside.queue.items (vec_capacity c.self.inside.queue) c.args.timer.place c.self.invariant below idle in
    let stays = (c.in-Ok.ensures.in_place (omega (arith, room, c.self.inside.queue.ok))).1.0 in
    rw (c.in-Ok.ensures.items, stays)
    (queue_set deadlines c.self.inside.queue.items (vec_capacity c.self.inside.queue) c.args.timer.place c.args.timer.deadline c.rank-rank.result c.self.invariant below idle rank)
