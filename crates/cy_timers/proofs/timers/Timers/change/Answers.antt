-- What is left to show of `Timers::change`.
use Rattle.std.proofs.Common.{◌≡◌, ◌<◌, ℕ, Option, Some, None, List, length, get_or, drop, vec_capacity, sym, ap, ◌∙◌, subst, arith}
use Rattle.std.proofs.lemmas.List.{take_at}
use Rattle.cy_timers.specs.declared.timers.Timer.{Timer}
use Rattle.cy_timers.specs.Order.{IsRank, moved}
use Rattle.cy_timers.proofs.Changes.{queue_cancel, queue_changed, queue_in_order}
use Rattle.cy_timers.proofs.timers.Timers.change.Goals as goal

pub rank-from-requires : goal.rank-from-requires
rank-from-requires c =
    rw c.deref.ensures.value (queue_in_order c.self.inside.deadlines.items c.self.inside.queue.items (vec_capacity c.self.inside.queue) c.self.invariant)

pub rank-to-requires : goal.rank-to-requires
rank-to-requires c =
    rw c.deref-2.ensures.value (queue_in_order c.self.inside.deadlines.items c.self.inside.queue.items (vec_capacity c.self.inside.queue) c.self.invariant)

pub move_timer-requires-clause-from : goal.move_timer-requires-clause-from
move_timer-requires-clause-from c =
    let place : ℕ = c.args.timer.place in
    let deadlines : List (Option ℕ) = c.self.inside.deadlines.items in
    let queue : List Timer = c.self.inside.queue.items in
    let old : Timer = record { deadline = c.args.before; place = place } in
    let below : place < length deadlines = subst (λ (l : List (Option ℕ)). place < length l) (sym c.self.view_is) c.requires.below in
    let held : get_or deadlines place None ≡ Some c.args.before = ap (λ (l : List (Option ℕ)). get_or l place None) c.self.view_is ∙ c.requires.held in
    let rank = subst (λ (l : List Timer). IsRank old l c.rank-from.result) c.deref.ensures.value c.rank-from.ensures in
    let out = queue_cancel deadlines queue (vec_capacity c.self.inside.queue) place c.args.before c.rank-from.result c.self.invariant below held rank in
    rw c.deref_mut.ensures.value out.within

pub invariant_of-self : goal.invariant_of-self
invariant_of-self c =
    let place : ℕ = c.args.timer.place in
    let deadlines : List (Option ℕ) = c.self.inside.deadlines.items in
    let queue : List Timer = c.self.inside.queue.items in
    let old : Timer = record { deadline = c.args.before; place = place } in
    let below : place < length deadlines = subst (λ (l : List (Option ℕ)). place < length l) (sym c.self.view_is) c.requires.below in
    let held : get_or deadlines place None ≡ Some c.args.before = ap (λ (l : List (Option ℕ)). get_or l place None) c.self.view_is ∙ c.requires.held in
    let from = subst (λ (l : List Timer). IsRank old l c.rank-from.result) c.deref.ensures.value c.rank-from.ensures in
    let to = subst (λ (l : List Timer). IsRank c.args.timer l c.rank-to.result) c.deref-2.ensures.value c.rank-to.ensures in
    let left : c.move_timer.new.queue ≡ moved queue c.rank-from.result c.rank-to.result c.args.timer =
    c.move_timer.ensures ∙ ap (λ (l : List Timer). moved l c.rank-from.result c.rank-to.result c.args.timer) c.deref_mut.ensures.value in
    let size : length c.move_timer.new.queue ≡ c.self.inside.queue.len = omega (arith, c.deref_mut.ensures.len, c.self.inside.queue.ok) in
    let is = take_at c.move_timer.new.queue (drop (length c.move_timer.new.queue) queue) c.self.inside.queue.len size in
    rw (is, left)
    (queue_changed deadlines queue (vec_capacity c.self.inside.queue) place c.args.before c.args.timer.deadline c.rank-from.result c.rank-to.result c.self.invariant below held from to)
