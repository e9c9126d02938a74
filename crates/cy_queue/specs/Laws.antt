-- What a queue is asked over time, and the places that went in and came out. The newest call comes first. Own.
use Rattle.std.specs.Prelude.{◌≡◌, ℕ, Bool, true, false, List, [], ◌∷◌, ◌++◌, take}
use Rattle.cy_queue.specs.declared.places.Put.{Put}
use Rattle.cy_queue.specs.declared.places.Put.TheVariants as answer
use Rattle.cy_queue.specs.Queues.{Queue, empty, put_answer, after_put, after_pop, after_close}
use Rattle.cy_queue.specs.Marks.{IsDistinct}

-- one call
pub data Turn : Type 0 where
  put : ℕ → Turn
  pop : Turn
  close : Turn

-- the queue after these calls of a new one for so many places
abbrev pub queue_after : ℕ → List Turn → Queue
queue_after places [] = empty places
queue_after places (put place ∷ before) = after_put (queue_after places before) place
queue_after places (pop ∷ before) = after_pop (queue_after places before)
queue_after places (close ∷ before) = after_close (queue_after places before)

-- the place, where it was put
abbrev pub if_put : Put → ℕ → List ℕ
if_put answer.Put place = place ∷ []
if_put answer.AlreadyThere place = []
if_put answer.Closed place = []

-- the places that went in, in order
abbrev pub went_in : ℕ → List Turn → List ℕ
went_in places [] = []
went_in places (put place ∷ before) = went_in places before ++ if_put (put_answer (queue_after places before) place) place
went_in places (pop ∷ before) = went_in places before
went_in places (close ∷ before) = went_in places before

-- the places that came out, in order
abbrev pub came_out : ℕ → List Turn → List ℕ
came_out places [] = []
came_out places (put place ∷ before) = came_out places before
came_out places (pop ∷ before) = came_out places before ++ take 1 (queue_after places before).waiting
came_out places (close ∷ before) = came_out places before

-- the queue was closed
abbrev pub was_closed : List Turn → Bool
was_closed [] = false
was_closed (put place ∷ before) = was_closed before
was_closed (pop ∷ before) = was_closed before
was_closed (close ∷ before) = true

-- What went in came out, in the same order, or still waits; no place waits twice; and after a close none goes in.
pub record KeepsOrder (places : ℕ) (turns : List Turn) : Type 0 where
  pub order : went_in places turns ≡ came_out places turns ++ (queue_after places turns).waiting
  pub once : IsDistinct (queue_after places turns).waiting
  pub shut : (place : ℕ) → was_closed turns ≡ true → went_in places (put place ∷ turns) ≡ went_in places turns

abbrev pub QueueKeepsOrder : Type 0
QueueKeepsOrder = (places : ℕ) (turns : List Turn) → KeepsOrder places turns
