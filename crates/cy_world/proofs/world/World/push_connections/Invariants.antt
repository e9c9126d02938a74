-- What the loop of `World::push_connections` keeps.
use Rattle.std.proofs.Common.{◌≡◌, ◌++◌, ℕ, List, flat_map}
use Rattle.cy_event.specs.declared.steps.Step.{Step}
use Rattle.cy_world.specs.Reporting.{text_of}
use Rattle.cy_world.specs.Worlds.{StandsFor}
use Rattle.cy_world.specs.declared.world.Admitted.{Admitted}
use Rattle.cy_world.proofs.world.World.push_connections.Given as goal

abbrev pub invariant-loop-number : goal.invariant-loop-number
invariant-loop-number l =
    (w : List Step) → StandsFor w l.self →
    l.text.items ++ flat_map (λ (e : ℕ × Admitted). text_of l.self w e.0) l.number-iterator
    ≡ l.initial.text.items ++ flat_map (λ (e : ℕ × Admitted). text_of l.self w e.0) l.self.book
