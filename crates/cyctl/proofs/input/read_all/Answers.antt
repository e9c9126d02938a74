-- What is left to show of `read_all`.
use Rattle.std.proofs.Common.{◌≡◌, ◌<◌, ◌≤◌, length, take, arith, length-take-le}
use Rattle.cyctl.proofs.Streams.{WasRead-further}
use Rattle.cyctl.proofs.input.read_all.Goals as goal

pub returns-in-Got-clause-too_large : goal.returns-in-Got-clause-too_large
returns-in-Got-clause-too_large g c =
    let page = c.read.new.into in
    let n = c.in-Got.count in
    let more : length (take n page) ≡ n = length-take-le n page (omega (arith, c.in-Got.ensures.within)) in
    λ _. WasRead-further (λ k. 67108864 < k) _ _ _ c.loop-turn.input.items (take n page) c.loop-turn.invariant.bytes c.in-Got.ensures.moves
    (omega (arith, more, c.if-count-len.true))

pub returns-in_err-extend_from_slice-in-Got-2-clause-not_too_large :
    goal.returns-in_err-extend_from_slice-in-Got-2-clause-not_too_large
returns-in_err-extend_from_slice-in-Got-2-clause-not_too_large g c =
    let page = c.read.new.into in
    let n = c.in-Got-2.count in
    let more : length (take n page) ≡ n = length-take-le n page (omega (arith, c.in-Got-2.ensures.within)) in
    λ _. WasRead-further (λ k. k ≤ 67108864) _ _ _ c.loop-turn.input.items (take n page) c.loop-turn.invariant.bytes c.in-Got-2.ensures.moves
    (omega (arith, more, c.if-count-len.false))
