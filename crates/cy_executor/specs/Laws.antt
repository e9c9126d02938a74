-- When an executor starts a thread, in words that hold whatever the table's order is. Own.
use Rattle.std.specs.Prelude.{◌≡◌, ◌<◌, ◌≤◌, ◌⊎◌}
use Rattle.cy_executor.specs.declared.admission.Counts.{Counts}
use Rattle.cy_executor.specs.declared.admission.Admission.TheVariants.{Start, Queue}
use Rattle.cy_executor.specs.Admissions.{admission}

-- A thread is started only below `core` or below `max` threads, and always below `core`. With `core` reached none is
-- started while there are no more tasks than threads, and with more one is started while there are fewer than `max`.
pub record StartsBelow (c : Counts) : Type 0 where
  pub only : admission c ≡ Start → (c.threads < c.core) ⊎ (c.threads < c.max)
  pub always : c.threads < c.core → admission c ≡ Start
  pub enough : c.core ≤ c.threads → c.submitted ≤ c.threads → admission c ≡ Queue
  pub more : c.core ≤ c.threads → c.threads < c.max → c.threads < c.submitted → admission c ≡ Start

abbrev pub ThreadsStartBelowTheirBounds : Type 0
ThreadsStartBelowTheirBounds = (c : Counts) → StartsBelow c
