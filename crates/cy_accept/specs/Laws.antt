-- A law of the acceptor. It is the contract of a public function without a body.
use Rattle.std.specs.Prelude.{◌≡◌, ℕ, ◌+◌, ◌≤◌, Bool, List, length}
use Rattle.cy_latch.specs.Numbers.{IsDistinct, count_out}
use Rattle.cy_accept.specs.Runs.{EachCame, IsRun, Turn, came_count, left_count, shares_in}

-- What holds after some calls, whatever the door answered: the latch counts the connections that are in, each once and at
-- most as many as the limit; and where only those left that had come, these are those that came less those that left.
pub record CountsConnections (limit : ℕ) (turns : List Turn) (numbers : List Bool) : Type 0 where
  pub once : IsDistinct (shares_in turns)
  pub counted : count_out numbers ≡ length (shares_in turns)
  pub limited : count_out numbers ≤ limit
  pub balanced : EachCame turns → count_out numbers + left_count turns ≡ came_count turns

abbrev pub LatchCountsConnections : Type 0
LatchCountsConnections = (limit : ℕ) (turns : List Turn) (numbers : List Bool) → IsRun limit turns numbers → CountsConnections limit turns numbers
