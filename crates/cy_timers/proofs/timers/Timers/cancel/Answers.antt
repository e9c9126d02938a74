-- What is left to show of `Timers::cancel`.
use Rattle.std.proofs.Common.{◌≡◌, ◌<◌, ℕ, Option, Some, None, List, length, get_or, vec_capacity, sym, ◌∙◌, subst, arith}
use Rattle.std.proofs.lemmas.List.{get_or_default}
use Rattle.cy_timers.specs.declared.timers.Timer.{Timer}
use Rattle.cy_timers.specs.Order.{IsRank}
use Rattle.cy_timers.proofs.Changes.{queue_cancel, queue_in_order}
use Rattle.cy_timers.proofs.timers.Timers.cancel.Goals as goal

pub rank-rank-requires : goal.rank-rank-requires
rank-rank-requires c =
    rw c.deref.ensures.value (queue_in_order c.self.inside.deadlines.items c.self.inside.queue.items (vec_capacity c.self.inside.queue) c.self.invariant)

pub remove-timer-requires : goal.remove-timer-requires
remove-timer-requires c =
    let deadlines : List (Option ℕ) = c.self.inside.deadlines.items in
    let queue : List Timer = c.self.inside.queue.items in
    let timer : Timer = record { deadline = c.in-Some.deadline; place = c.args.place } in
    let below : c.args.place < length deadlines = subst (λ (l : List (Option ℕ)). c.args.place < length l) (sym c.self.view_is) c.requires in
    let some : get_or deadlines c.args.place None ≡ Some c.in-Some.deadline =
    get_or_default deadlines c.args.place None c.index.result.now below ∙ sym c.index.ensures ∙ c.in-Some.is in
    let rank = subst (λ (l : List Timer). IsRank timer l c.rank-rank.result) c.deref.ensures.value c.rank-rank.ensures in
    let out = (queue_cancel deadlines queue (vec_capacity c.self.inside.queue) c.args.place c.in-Some.deadline c.rank-rank.result c.self.invariant below some rank).within in
    omega (arith, out, c.self.inside.queue.ok)

pub invariant_of-self : goal.invariant_of-self
invariant_of-self c =
    let deadlines : List (Option ℕ) = c.self.inside.deadlines.items in
    let queue : List Timer = c.self.inside.queue.items in
    let timer : Timer = record { deadline = c.in-Some.deadline; place = c.args.place } in
    let below : c.args.place < length deadlines = subst (λ (l : List (Option ℕ)). c.args.place < length l) (sym c.self.view_is) c.requires in
    let some : get_or deadlines c.args.place None ≡ Some c.in-Some.deadline =
    get_or_default deadlines c.args.place None c.index.result.now below ∙ sym c.index.ensures ∙ c.in-Some.is in
    let rank = subst (λ (l : List Timer). IsRank timer l c.rank-rank.result) c.deref.ensures.value c.rank-rank.ensures in
    rw (c.remove-timer.ensures.items, c.remove-timer.ensures.capacity)
    (queue_cancel deadlines queue (vec_capacity c.self.inside.queue) c.args.place c.in-Some.deadline c.rank-rank.result c.self.invariant below some rank).left
