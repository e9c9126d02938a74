-- The queue that is kept beside the deadlines. Own.
use Rattle.std.specs.Prelude.{◌≡◌, ℕ, ◌≤◌, ◌<◌, ◌^◌, Option, List, length}
use Rattle.cy_timers.specs.declared.timers.Timer.{Timer}
use Rattle.cy_timers.specs.Due.{in_order, timers_from}

-- the queue has the timers in their order, and room for one of each place
pub record IsQueue (deadlines : List (Option ℕ)) (queue : List Timer) (room : ℕ) : Type 0 where
  pub ordered : queue ≡ in_order (timers_from 0 deadlines)
  pub fits : length deadlines ≤ room
  pub few : length deadlines < 2 ^ 32
