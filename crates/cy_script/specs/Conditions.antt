-- What holds of the steps of a script as a whole.
use Rattle.std.specs.Prelude.{ℕ, ◌+◌, ◌≤◌, ◌≡◌, ◌==◌, nat_le, Bool, true, false, not, ◌&&◌, List, count_by}
use Rattle.std.specs.List.{list_all, list_any, sum_by}
use Rattle.cy_event.specs.declared.steps.Act.TheVariants as act
use Rattle.cy_event.specs.declared.steps.Step.{Step}
use Rattle.cy_event.specs.declared.steps.Step.TheVariants as step

-- The step is of a connection, which has a number of 1 or more. A step of the clock is of none.
abbrev pub is_of_a_connection : Step → Bool
is_of_a_connection (step.At moment) = false
is_of_a_connection (step.Admit conn) = nat_le 1 conn
is_of_a_connection (step.On conn event bytes) = nat_le 1 conn
is_of_a_connection (step.Run conn) = nat_le 1 conn
is_of_a_connection (step.Act conn act bytes) = nat_le 1 conn

-- the step admits the connection of the number
abbrev pub admits : ℕ → Step → Bool
admits n (step.Admit conn) = n == conn
admits n s = false

-- how many bytes of content the step writes
abbrev pub written_by : Step → ℕ
written_by (step.Act conn (act.Write n) bytes) = n
written_by s = 0

-- the most bytes that the steps of a script write, whether or not they are taken
abbrev pub most_written : ℕ
most_written = 8192

-- Each is of a connection, no number is admitted by two of them, and all together write few enough
-- bytes.
pub record AreSteps (steps : List Step) : Type 0 where
  pub of_connections : list_all is_of_a_connection steps ≡ true
  pub once : (n : ℕ) → count_by (admits n) steps ≤ 1
  pub short : sum_by written_by steps ≤ most_written

-- ---- one step more

-- one of the steps admits the connection of the number
abbrev pub is_admitted : ℕ → List Step → Bool
is_admitted n steps = list_any (admits n) steps

-- the step admits a connection that one of those before it admits
abbrev pub admits_again : List Step → Step → Bool
admits_again steps (step.Admit conn) = is_admitted conn steps
admits_again steps s = false

-- The step is of a connection, and admits none a second time. With it the steps write few enough
-- bytes.
abbrev pub is_next_step : List Step → Step → Bool
is_next_step steps s =
    is_of_a_connection s
    && (not (admits_again steps s) && nat_le (sum_by written_by steps + written_by s) most_written)
