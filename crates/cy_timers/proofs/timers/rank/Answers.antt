-- What is left to show of `rank`.
use Rattle.std.proofs.Common.{rules}
use Rattle.std.proofs.lemmas.List.Sorted.{IsPartitionPoint-from_clause}
use Rattle.cy_timers.specs.declared.timers.Timer.{Timer}
use Rattle.cy_timers.specs.Due.{is_before}
use Rattle.cy_timers.proofs.Sorted.{partitioned}
use Rattle.cy_timers.proofs.timers.rank.Goals as goal

pub returns : goal.returns
returns c =
    let sorted = partitioned c.args.timer.now c.args.queue.now c.requires in
    let point = IsPartitionPoint-from_clause (λ (t : Timer). is_before t c.args.timer.now) _ _ c.partition_point.ensures.partitioned sorted (λ a r q k. search rules) in
    record { within = c.partition_point.ensures.bound; front = point.0; back = point.1 }
