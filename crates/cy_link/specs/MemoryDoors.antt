-- What a door in memory shows, and what its accepts answer.
use Rattle.std.specs.Prelude.{ℕ, List, [], ◌∷◌, Bool, true, false, vec_capacity}
use Rattle.cy_link.specs.declared.door.Accepted.{Accepted}
use Rattle.cy_link.specs.declared.door.Accepted.TheVariants as accepted
use Rattle.cy_link.specs.declared.mem_door.Arrival.{Arrival}
use Rattle.cy_link.specs.declared.mem_door.Arrival.TheVariants as arrival
use Rattle.cy_link.specs.declared.mem_door.MemDoor.{MemDoor}

-- what an accept answers: whether it is to fail, and else the next arrival
abbrev pub accept_of : {L : Type 0} → Bool → List (Arrival L) → Accepted L
accept_of true rest = accepted.Failed
accept_of false [] = accepted.NotYet
accept_of false (arrival.Link link ∷ rest) = accepted.Link link
accept_of false (arrival.Pause ∷ rest) = accepted.NotYet

-- the port as which port 0 opens
abbrev pub door_port : {L : Type 0} → MemDoor L → ℕ
door_port d = d.port

-- the ports that it answered, and for how many it has room
abbrev pub door_opened : {L : Type 0} → MemDoor L → List ℕ
door_opened d = d.opened.items

abbrev pub door_room : {L : Type 0} → MemDoor L → ℕ
door_room d = vec_capacity d.opened

-- the arrivals that are left, and how many links it gave
abbrev pub door_arrivals : {L : Type 0} → MemDoor L → List (Arrival L)
door_arrivals d = d.arrivals.items

abbrev pub door_given : {L : Type 0} → MemDoor L → ℕ
door_given d = d.given

-- the numbers of the calls that fail, how many were made, how many failed, and how many paused
abbrev pub door_failing : {L : Type 0} → MemDoor L → List ℕ
door_failing d = d.calls.failing.items

abbrev pub door_calls : {L : Type 0} → MemDoor L → ℕ
door_calls d = d.calls.made

abbrev pub door_faults : {L : Type 0} → MemDoor L → ℕ
door_faults d = d.calls.faults

abbrev pub door_pauses : {L : Type 0} → MemDoor L → ℕ
door_pauses d = d.pauses
