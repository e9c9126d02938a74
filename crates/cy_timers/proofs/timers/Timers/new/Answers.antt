-- What is left to show of `Timers::new`.
use Rattle.std.proofs.Common.{◌≡◌, ℕ, Option, None, replicate, rules, arith}
use Rattle.cy_timers.proofs.Changes.{queue_at_first}
use Rattle.cy_timers.proofs.timers.Timers.new.Goals as goal

pub invariant_of-result : goal.invariant_of-result
invariant_of-result c =
    let none : Option ℕ = None in
    let are : c.in_ok-deadlines.deadlines.items ≡ replicate c.args.places none = c.in_ok-deadlines.ensures.items_if_clones_equal (search rules) in
    rw (are, c.in_ok-queue.ensures.items, c.in_ok-queue.ensures.exact) (queue_at_first c.args.places c.args.places (omega arith) (omega arith))
