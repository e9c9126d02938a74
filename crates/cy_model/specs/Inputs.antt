-- The input of a connection: which of its bytes belong to the last request's head and body, and which wait.
use Rattle.std.specs.Prelude.{ℕ, ◌+◌, ◌-◌, ◌^◌, min, Bool, true, false, not, ◌&&◌, List, [], ◌∷◌, length, drop, Option, Some, None, if◌then◌else◌}
use Rattle.cy_event.specs.declared.body.BodyMark.{BodyMark}
use Rattle.cy_event.specs.declared.body.BodyStage.{BodyStage}
use Rattle.cy_event.specs.declared.body.BodyStage.TheVariants as stage
use Rattle.cy_event.specs.declared.framing.Framing.TheVariants as framing
use Rattle.cy_event.specs.Bodies.{Body, whole, partial, bad, body_of, body_start, give_bytes, is_bad, scan_bytes}
use Rattle.cy_model.specs.Marks.{began, given, end_given, over, TakenUp, Trace}
use Rattle.cy_model.specs.Folds.{bytes_of, is_open, last_taken}

-- ---- the body of the last request that was taken up (RFC 9112, sections 6 and 7)

-- the bytes behind its head
abbrev pub behind_head : List ℕ → TakenUp → List ℕ
behind_head bytes r = drop (r.place + r.size) bytes

-- how far its body has come in them: how many bytes belong to it, and what may come next
abbrev pub scan_by : Option TakenUp → List ℕ → BodyMark
scan_by None bytes = body_start framing.None
scan_by (Some r) bytes = scan_bytes r.max_trailer (body_start r.framing) (behind_head bytes r)

abbrev pub scan_of : Trace → BodyMark
scan_of T = scan_by (last_taken T) (bytes_of T)

-- what they are of a body: all of one, a part, or no part of any
abbrev pub body_by : Option TakenUp → List ℕ → Body
body_by None bytes = whole [] 0
body_by (Some r) bytes = body_of r.max_trailer r.framing (behind_head bytes r)

-- nothing more belongs to the body, and it is a good one
abbrev pub is_whole : BodyStage → Bool
is_whole stage.Whole = true
is_whole s = false

abbrev pub has_whole_body : Trace → Bool
has_whole_body T = is_whole (scan_of T).stage

abbrev pub has_bad_body : Trace → Bool
has_bad_body T = is_bad (scan_of T).stage

-- ---- what was given of it

-- how much content was delivered
abbrev pub given_count : Trace → ℕ
given_count [] = 0
given_count ((t, began r) ∷ T) = 0
given_count ((t, given n) ∷ T) = given_count T + n
given_count ((t, m) ∷ T) = given_count T

-- its end was told
abbrev pub is_end_told : Trace → Bool
is_end_told [] = false
is_end_told ((t, began r) ∷ T) = false
is_end_told ((t, end_given) ∷ T) = true
is_end_told ((t, m) ∷ T) = is_end_told T

-- the content that waits behind n bytes, of a body that isn't bad
abbrev pub waiting_of : Body → ℕ → List ℕ
waiting_of (whole content size) n = drop n content
waiting_of (partial content) n = drop n content
waiting_of (bad fault) n = []

abbrev pub waiting : Trace → List ℕ
waiting T = waiting_of (body_by (last_taken T) (bytes_of T)) (given_count T)

-- ---- what is used up

-- the shortest part of the body that holds the content that was delivered
abbrev pub used_by_given : Option TakenUp → List ℕ → ℕ → ℕ
used_by_given None bytes n = 0
used_by_given (Some r) bytes n = (give_bytes r.max_trailer n (body_start r.framing) (behind_head bytes r)).mark.raw

-- how many bytes of the body are used up: all that belong to it once its request has ended or its end was told
abbrev pub used : Trace → ℕ
used T =
    if is_open T && not (is_end_told T) then used_by_given (last_taken T) (bytes_of T) (given_count T) else (scan_of T).raw

-- how many were as the request ended
abbrev pub used_at_end : Trace → ℕ
used_at_end [] = 0
used_at_end ((t, began r) ∷ T) = 0
used_at_end ((t, over) ∷ T) = used T
used_at_end ((t, m) ∷ T) = used_at_end T

-- how many were passed over since
abbrev pub swallowed : Trace → ℕ
swallowed T = if is_open T then 0 else used T - used_at_end T

-- ---- what waits

-- where the head of the last request ends
abbrev pub head_end : Option TakenUp → ℕ
head_end None = 0
head_end (Some r) = r.place + r.size

-- how many of all bytes belong to the requests that were taken up
abbrev pub consumed_by : Option TakenUp → ℕ → ℕ
consumed_by None n = 0
consumed_by (Some r) n = r.place + r.size + n

abbrev pub consumed : Trace → ℕ
consumed T = consumed_by (last_taken T) (used T)

-- the bytes that wait
abbrev pub unread : Trace → List ℕ
unread T = drop (consumed T) (bytes_of T)

-- bytes that are kept of the input at most, and that one connection takes in all
abbrev pub input_buffer : ℕ
input_buffer = 16384

abbrev pub input_total : ℕ
input_total = 2 ^ 62

-- how many bytes may come, of those that wait and the number of all that came
abbrev pub room_by : List ℕ → ℕ → ℕ
room_by waiting total = min (input_buffer - length waiting) (input_total - total)

abbrev pub room : Trace → ℕ
room T = room_by (unread T) (length (bytes_of T))
