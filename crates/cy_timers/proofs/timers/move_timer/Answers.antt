-- What is left to show of `move_timer`.
use Rattle.std.proofs.Common.{◌≡◌, ◌+◌, ◌-◌, ℕ, suc, List, ◌++◌, length, set, take, drop, insert, remove, subst, arith}
use Rattle.std.proofs.lemmas.Bool.{le-ltb, lt-ltb}
use Rattle.std.proofs.lemmas.List.{length-drop, length-take}
use Rattle.cy_timers.specs.declared.timers.Timer.{Timer}
use Rattle.cy_timers.proofs.Moves.{moved_back, moved_front}
use Rattle.cy_timers.proofs.timers.move_timer.Goals as goal

pub returns-then-from-to : goal.returns-then-from-to
returns-then-from-to c =
    let queue : List Timer = c.args.queue.now in
    let between : ℕ = c.args.to - c.args.from - 1 in
    let size : suc between ≡ c.args.to - c.args.from = omega arith in
    rw (c.rotate_left.ensures.after, lt-ltb c.args.from c.args.to c.if-from-to.true)
    (subst (λ (n : ℕ). set (take c.args.from queue ++ ((drop 1 (take n (drop c.args.from queue)) ++ take 1 (take n (drop c.args.from queue))) ++ drop n (drop c.args.from queue))) (c.args.to - 1) c.args.timer ≡ insert (remove queue c.args.from) (c.args.to - 1) c.args.timer) size
    (moved_back c.args.from between (c.args.to - 1) queue c.args.timer (omega arith) (omega arith)))

pub returns-else-from-to : goal.returns-else-from-to
returns-else-from-to c =
    let queue : List Timer = c.args.queue.now in
    let between : ℕ = c.args.from - c.args.to in
    let size : suc between ≡ c.args.from + 1 - c.args.to = omega arith in
    let part : List Timer = take (c.args.from + 1 - c.args.to) (drop c.args.to queue) in
    let last : length part - 1 ≡ between =
    (let e = length-take (c.args.from + 1 - c.args.to) (drop c.args.to queue) in
    let f = length-drop c.args.to queue in
    omega (arith, e, f)) in
    rw (c.rotate_right.ensures.after, last, le-ltb c.args.from c.args.to c.if-from-to.false)
    (subst (λ (n : ℕ). set (take c.args.to queue ++ ((drop between (take n (drop c.args.to queue)) ++ take between (take n (drop c.args.to queue))) ++ drop n (drop c.args.to queue))) c.args.to c.args.timer ≡ insert (remove queue c.args.from) c.args.to c.args.timer) size
    (moved_front c.args.to between c.args.from queue c.args.timer (omega arith) c.requires.from))
