-- What is left to show of `Timers::due`.
use Rattle.std.proofs.Common.{◌≡◌, ◌<◌, ◌≤◌, List, length, get_or, vec_capacity, ap, ◌∙◌, subst, arith}
use Rattle.cy_timers.specs.declared.timers.Timer.{Timer}
use Rattle.cy_timers.proofs.Changes.{queue_in_order}
use Rattle.cy_timers.proofs.Fronts.{due_is, front_more, whole_at_late, whole_counts, written_more}
use Rattle.cy_timers.proofs.timers.Timers.due.Goals as goal

pub returns-then-timer-now-clause-count : goal.returns-then-timer-now-clause-count
returns-then-timer-now-clause-count c =
    let queue : List Timer = c.self.inside.queue.items in
    let found = c.in-Some.ensures.lookup in
    let below : c.loop-i.i < length queue = omega (arith, found.3.0, ap length c.deref.ensures.value) in
    let is : c.in-Some.timer.now ≡ get_or queue c.loop-i.i c.in-Some.timer.now =
    found.1 ∙ ap (λ (l : List Timer). get_or l c.loop-i.i c.in-Some.timer.now) c.deref.ensures.value in
    let late = subst (λ (t : Timer). c.args.now < t.deadline) is c.if-timer-now.true in
    let ordered = queue_in_order c.self.inside.deadlines.items queue (vec_capacity c.self.inside.queue) c.self.invariant in
    let whole = whole_at_late c.args.now queue c.loop-i.i c.in-Some.timer.now ordered below late c.loop-i.invariant.0 in
    let count = whole_counts c.args.now queue c.loop-i.i c.loop-i.invariant.0 whole in
    let same = ap length (due_is c.self.inside.deadlines.items c.args.self.now queue c.args.now c.self.invariant.ordered c.self.view_is) in
    omega (arith, count, same)

pub loop-i-preserved : goal.loop-i-preserved
loop-i-preserved c =
    let queue : List Timer = c.self.inside.queue.items in
    let found = c.in-Some.ensures.lookup in
    let below : c.loop-i.i < length queue = omega (arith, found.3.0, ap length c.deref.ensures.value) in
    let is : c.in-Some.timer.now ≡ get_or queue c.loop-i.i c.in-Some.timer.now =
    found.1 ∙ ap (λ (l : List Timer). get_or l c.loop-i.i c.in-Some.timer.now) c.deref.ensures.value in
    let passes = subst (λ (t : Timer). t.deadline ≤ c.args.now) is c.if-timer-now.false in (
      front_more c.args.now queue c.loop-i.i c.in-Some.timer.now below passes c.loop-i.invariant.0,
      written_more queue c.loop-i.into c.args.into.now c.loop-i.i c.in-Some.timer.now below (omega arith) is c.loop-i.invariant.1,
    )
