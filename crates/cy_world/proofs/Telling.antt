-- What is told of a connection that has a place is what its trace says.
use Rattle.std.proofs.Common.{◌≡◌, ℕ, List, Some, option_map, sym, ap, ◌∙◌, subst}
use Rattle.std.specs.Prelude.{slice_index_or}
use Rattle.cy_event.specs.declared.steps.Step.{Step}
use Rattle.cy_model.specs.Connections.{find_own}
use Rattle.cy_model.specs.Entries.{Entry, trace_of}
use Rattle.cy_model.specs.Marks.{Trace}
use Rattle.cy_world.specs.Answered.{Keeps, SeatParts, seat_parts}
use Rattle.cy_world.specs.Told.{TalliesEach, tally_of, told_of}
use Rattle.cy_world.specs.Worlds.{StandsFor, WorldParts, find_in}
use Rattle.cy_world.specs.declared.seat.Tally.{Tally}
use Rattle.cy_world.specs.declared.world.Admitted.TheVariants.{Seated}
use Rattle.cy_world.proofs.Owned.{item_is, place_below}
use Rattle.cy_world.proofs.Stepping.{all_of, found, some}

pub seated_tells : (w : List Step) (p : WorldParts) (c i : ℕ) (seat : SeatParts) (t : Tally) → StandsFor w p → find_in c p.book ≡ Some (Seated i) → seat ≡ slice_index_or p.seats i seat
    → TalliesEach (seat_parts seat) t → Some t ≡ told_of tally_of p w c
seated_tells w p c i seat t stands booked value tallies =
    let f = found p.terms p.seats c i (find_own c (all_of p w)) (find_in c p.book) booked (stands.each c) in
    let T : Trace = trace_of p.terms.limits p.terms.rules f.entries in
    let there = item_is p.seats i seat (place_below w p c i stands booked) value in
    let same : f.seated.seat ≡ seat = some f.seated.seat seat (sym f.seated.there ∙ there) in
    let keeps = subst (λ (k : SeatParts). Keeps p.terms T (seat_parts k)) same f.seated.keeps in
    ap Some (tallies p.terms T keeps)
    ∙ sym (ap (option_map (λ (es : List (ℕ × Entry)). tally_of (trace_of p.terms.limits p.terms.rules es))) f.is)
