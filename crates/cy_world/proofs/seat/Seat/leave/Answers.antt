-- What is left to show of `Seat::leave`: the account tells what the trace says.
use Rattle.std.proofs.Common.{ap, sym, ◌∙◌, if◌then◌else◌, Bool, ◌++◌, ◌∷◌, []}
use Rattle.cy_world.specs.Answered.{SeatParts, seat_parts}
use Rattle.cy_world.proofs.Keeping.{tells}
use Rattle.cy_world.proofs.seat.Seat.leave.Goals as goal

pub returns-clause-tells : goal.returns-clause-tells
returns-clause-tells c s T keeps =
    let live = c.args.self.now.place.live in
    tells s T (seat_parts c.args.self.now) _ keeps
    (c.cause-cause.ensures ∙ ap (λ (p : SeatParts). p.place.live.line.cause) c.self.view_is)
    (c.took-took.ensures s T keeps)
    (c.of.ensures ∙ c.shrink_to_fit-2.ensures.items ∙ c.into_vec-written.ensures ∙ c.replace.ensures.value ∙ ap (λ (p : SeatParts). p.written) c.self.view_is)
    (
    c.shrink_to_fit.ensures.items
    ∙ c.leave-share.ensures.charts
    ∙ ap (λ (p : SeatParts). p.place.live.charts) c.self.view_is
    ∙ ap (λ (v : Bool). if v then live.charts ++ live.processor.progress.chart ∷ [] else live.charts) (sym c.requires.closed)
    )
