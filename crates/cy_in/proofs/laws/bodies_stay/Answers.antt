-- What is over takes no more bytes.
use Rattle.cy_event.specs.Bodies.{body_start}
use Rattle.cy_in.proofs.Joins.{settled_mark, settled_body}
use Rattle.cy_in.proofs.laws.bodies_stay.Goals as goal

pub returns : goal.returns
returns c max f xs ys over =
    record { mark = settled_mark max (body_start f) xs ys over; body = settled_body max f xs ys over }
