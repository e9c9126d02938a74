-- A queue of places, and what its calls make of it. Own.
use Rattle.std.specs.Prelude.{ℕ, Bool, true, false, if◌then◌else◌, ◌||◌, ◌==◌, List, [], ◌∷◌, ◌++◌, drop}
use Rattle.cy_queue.specs.declared.places.Put.{Put}
use Rattle.cy_queue.specs.declared.places.Put.TheVariants as put

-- how many places there are, which of them wait, the first first, and whether the queue is closed
pub record Queue : Type 0 where
  pub places : ℕ
  pub waiting : List ℕ
  pub closed : Bool

-- whether a place is among these
abbrev pub holds : List ℕ → ℕ → Bool
holds [] n = false
holds (m ∷ ms) n = (m == n) || holds ms n

-- a new queue
abbrev pub empty : ℕ → Queue
empty places = record { places = places; waiting = []; closed = false }

-- what putting a place answers
abbrev pub put_answer : Queue → ℕ → Put
put_answer q place = if q.closed then put.Closed else if holds q.waiting place then put.AlreadyThere else put.Put

-- a place that is put stands at the end
abbrev pub with_place : Queue → ℕ → Queue
with_place q place = record { places = q.places; waiting = q.waiting ++ place ∷ []; closed = q.closed }

abbrev pub after_put : Queue → ℕ → Queue
after_put q place = if q.closed then q else if holds q.waiting place then q else with_place q place

-- the first place is gone
abbrev pub after_pop : Queue → Queue
after_pop q = record { places = q.places; waiting = drop 1 q.waiting; closed = q.closed }

abbrev pub after_close : Queue → Queue
after_close q = record { places = q.places; waiting = q.waiting; closed = true }
