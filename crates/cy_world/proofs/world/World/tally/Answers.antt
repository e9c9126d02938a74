-- What is left to show of `World::tally`.
use Rattle.std.proofs.Common.{◌≡◌, Some, sym, ap, ◌∙◌}
use Rattle.std.specs.Prelude.{option_copied}
use Rattle.cy_world.specs.Worlds.{find_in}
use Rattle.cy_world.specs.declared.world.Admitted.TheVariants.{Seated}
use Rattle.cy_world.proofs.Telling.{seated_tells}
use Rattle.cy_world.proofs.world.World.tally.Goals as goal

pub returns-in-Seated : goal.returns-in-Seated
returns-in-Seated c =
    let booked : find_in c.args.conn c.self.inside.book.entries ≡ Some (Seated c.in-Seated.place) =
    sym c.get.ensures.value ∙ ap option_copied c.in_ok-place.was ∙ ap Some c.in-Seated.is in
    rw (← c.self.view_is) (λ w stands. seated_tells w _ c.args.conn c.in-Seated.place c.index.result.now c.tally.result stands booked c.index.ensures c.tally.ensures)
