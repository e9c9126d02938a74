-- What is left to show of `Seat::tally`: what it counts is what the trace says.
use Rattle.std.proofs.Common.{◌≤◌, Bool, true, false, ap, ◌∙◌, arith, ◌+◌, ℕ, length}
use mir.Val.{bool_byte}
use Rattle.cy_proc.specs.Processors.{is_open_at}
use Rattle.cy_world.specs.Answered.{SeatParts, seat_parts}
use Rattle.cy_world.proofs.Keeping.{tallies}
use Rattle.cy_world.proofs.seat.Seat.tally.Goals as goal

one_at_most : (v : Bool) → bool_byte v ≤ 1
one_at_most true = omega arith
one_at_most false = omega arith

pub overflow_add-result : goal.overflow_add-result
overflow_add-result c = omega (arith, c.ended-ended.ensures.within, c.from.ensures, one_at_most c.is_open.result)

pub returns : goal.returns
returns c s T keeps =
    let charts = c.ended-ended.ensures.count ∙ ap (λ (p : SeatParts). length p.place.live.charts) c.self.view_is in
    tallies s T (seat_parts c.args.self.now) _ keeps
    (c.cause.ensures ∙ ap (λ (p : SeatParts). p.place.live.line.cause) c.self.view_is)
    (c.took.ensures s T keeps)
    (
    ap (λ (n : ℕ). n + c.from.result) charts
    ∙ ap (λ (n : ℕ). length c.args.self.now.place.live.charts + n) c.from.ensures
    ∙ ap (λ (v : Bool). length c.args.self.now.place.live.charts + bool_byte v) c.is_open.ensures.«open»
    ∙ ap (λ (p : SeatParts). length c.args.self.now.place.live.charts + bool_byte (is_open_at p.place.live.processor.stage)) c.self.view_is
    )
    charts
