-- What a trace says of the body of its last request, as an intake: how far it came, and what is used up of it.
use Rattle.std.specs.Prelude.{◌≡◌, ◌≤◌, ℕ, ◌+◌, length, Bool, true, false, not, ◌&&◌, List, [], Option, Some, None, if◌then◌else◌}
use Rattle.cy_event.specs.declared.body.BodyMark.{BodyMark}
use Rattle.cy_event.specs.declared.framing.Framing.TheVariants as framing
use Rattle.cy_event.specs.Bodies.{body_start, content_in, give_bytes}
use Rattle.cy_in.specs.Intakes.{Intake}
use Rattle.cy_model.specs.Folds.{bytes_of, is_open, last_taken}
use Rattle.cy_model.specs.Inputs.{behind_head, given_count, has_whole_body, head_end, is_end_told, scan_of, used_at_end, waiting}
use Rattle.cy_model.specs.Marks.{TakenUp, Trace}

-- behind the shortest part of the body that holds so much content
abbrev pub given_mark : Option TakenUp → List ℕ → ℕ → BodyMark
given_mark None bytes n = body_start framing.None
given_mark (Some r) bytes n = (give_bytes r.max_trailer n (body_start r.framing) (behind_head bytes r)).mark

-- behind what is used up
abbrev pub used_mark : Trace → BodyMark
used_mark T =
    if is_open T && not (is_end_told T) then given_mark (last_taken T) (bytes_of T) (given_count T) else scan_of T

abbrev pub max_trailer_by : Option TakenUp → ℕ
max_trailer_by None = 0
max_trailer_by (Some r) = r.max_trailer

-- from where a body is passed over, once its request has ended
abbrev pub passed_from : Bool → Option TakenUp → ℕ → Option ℕ
passed_from true taken n = None
passed_from false None n = None
passed_from false (Some r) n = Some n

abbrev pub intake_of : Trace → Intake
intake_of T = record {
  scanned = scan_of T;
  taken = used_mark T;
  max_trailer = max_trailer_by (last_taken T);
  swallowed_from = passed_from (is_open T) (last_taken T) (used_at_end T);
}

-- what was scanned and isn't used up stands first among the bytes that wait, and no more than all that came is used up
pub record IsInRing (i : Intake) (waiting : List ℕ) (came : ℕ) : Type 0 where
  pub taken : i.taken.raw + length waiting ≤ came
  pub scanned : i.scanned.raw ≤ i.taken.raw + length waiting
  pub order : i.taken.raw ≤ i.scanned.raw

-- what was given stands in the bytes that came
abbrev pub IsGivenWithin : Option TakenUp → List ℕ → ℕ → Type 0
IsGivenWithin None bytes n = Unit {0}
IsGivenWithin (Some r) bytes n = n ≤ length (content_in r.max_trailer (body_start r.framing) (behind_head bytes r))

-- the body is whole, and all of its content was given
abbrev pub IsAllGiven : Trace → Type 0
IsAllGiven T = (has_whole_body T ≡ true) × (waiting T ≡ [])

-- The head of the last request stands in the bytes that came, and so does what was given of its body, whose end was told
-- only behind all of it.
pub record IsSoundInput (T : Trace) : Type 0 where
  pub heads_came : head_end (last_taken T) ≤ length (bytes_of T)
  pub given : IsGivenWithin (last_taken T) (bytes_of T) (given_count T)
  pub told : is_open T ≡ true → is_end_told T ≡ true → IsAllGiven T
