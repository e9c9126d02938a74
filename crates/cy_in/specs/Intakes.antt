-- What a `BodyIn` is, and what each call makes of it and of the bytes that the in ring holds.
use Rattle.std.specs.Prelude.{ℕ, ◌-◌, ◌≤◌, Bool, true, false, ◌||◌, min, nat_lt, List, [], drop, take, Option, Some, None, unwrap_or, if◌then◌else◌}
use Rattle.cy_event.specs.Bodies.{Given, body_start, give_bytes, scan_bytes}
use Rattle.cy_event.specs.declared.framing.Framing.{Framing}
use Rattle.cy_event.specs.declared.framing.Framing.TheVariants as framing
use Rattle.cy_event.specs.declared.body.BodyStage.{BodyStage}
use Rattle.cy_event.specs.declared.body.BodyStage.TheVariants as stage
use Rattle.cy_event.specs.declared.body.BodyMark.{BodyMark}
use Rattle.cy_in.specs.Scans.{scan_at}
use Rattle.cy_in.specs.declared.fault.BodyFault.TheVariants as fault
use Rattle.cy_in.specs.declared.fault.Scan.{Scan}
use Rattle.cy_in.specs.declared.fault.Scan.TheVariants as scan
use Rattle.cy_in.specs.declared.marks.TheConstants.{GREATEST_RAW}

-- How far the body was scanned, and how far it was taken out of the ring; the limit of the trailers of the last scan;
-- and how many bytes had been taken when swallowing began.
pub record Intake : Type 0 where
  pub scanned : BodyMark
  pub taken : BodyMark
  pub max_trailer : ℕ
  pub swallowed_from : Option ℕ

-- at the first byte of a body
abbrev pub started : Framing → Intake
started f = record { scanned = body_start f; taken = body_start f; max_trailer = 0; swallowed_from = None }

-- a length is at most 2^62
abbrev pub IsShort : Framing → Type 0
IsShort framing.None = Unit {0}
IsShort (framing.Length n) = n ≤ GREATEST_RAW
IsShort framing.Chunked = Unit {0}

-- how many bytes were scanned and not taken: these stand first in the ring
abbrev pub ahead : Intake → ℕ
ahead i = i.scanned.raw - i.taken.raw

-- how much content was scanned and not taken
abbrev pub waiting : Intake → ℕ
waiting i = i.scanned.content - i.taken.content

-- how many bytes a call took out of the ring
abbrev pub taken_by : Intake → Intake → ℕ
taken_by old new = new.taken.raw - old.taken.raw

-- the body is whole
abbrev pub is_whole : BodyStage → Bool
is_whole stage.Whole = true
is_whole _ = false

abbrev pub scan_answer : Intake → Scan
scan_answer i = scan_at i.scanned i.scanned.stage

-- ---- scan

-- the bytes of the ring that weren't scanned yet are scanned
abbrev pub after_scan : ℕ → Intake → List ℕ → Intake
after_scan max_trailer i input =
    record i { scanned = scan_bytes max_trailer i.scanned (drop (ahead i) input); max_trailer = max_trailer }

-- ---- read

-- what a read of at most n bytes gives, where content waits
abbrev pub piece : ℕ → Intake → List ℕ → Given
piece n i input = give_bytes i.max_trailer (min n (waiting i)) i.taken (take (ahead i) input)

abbrev pub has_content : Intake → Bool
has_content i = nat_lt 0 (waiting i)

abbrev pub content_read : ℕ → Intake → List ℕ → List ℕ
content_read n i input = if has_content i then (piece n i input).content else []

-- The shortest part of the body that holds the content is taken; all of it once its end is told.
abbrev pub after_read : ℕ → Intake → List ℕ → Intake
after_read n i input =
    if has_content i then record i { taken = (piece n i input).mark }
    else if is_whole i.scanned.stage then record i { taken = i.scanned }
    else i

-- a read of one byte gives it, or tells the end
abbrev pub is_ready : Intake → Bool
is_ready i = has_content i || is_whole i.scanned.stage

-- ---- swallow

-- all that was scanned is taken
abbrev pub after_swallow : ℕ → Intake → List ℕ → Intake
after_swallow max_trailer i input =
    let next = after_scan max_trailer i input in
    record next { taken = next.scanned; swallowed_from = Some (unwrap_or i.swallowed_from i.taken.raw) }

-- how many bytes were swallowed
abbrev pub swallowed : Intake → ℕ
swallowed i = i.taken.raw - unwrap_or i.swallowed_from i.taken.raw

-- The byte that makes a body bad isn't swallowed, so where more were swallowed than allowed that came before it.
abbrev pub swallow_answer : ℕ → Intake → Scan
swallow_answer max_swallow i =
    if nat_lt max_swallow (swallowed i) then scan.Bad fault.SwallowLimit else scan_answer i

-- ---- what is always so

pub record IsIntake (i : Intake) : Type 0 where
  pub scanned : i.scanned.content ≤ i.scanned.raw
  pub taken : i.taken.content ≤ i.taken.raw
  pub order : i.taken.raw ≤ i.scanned.raw
  pub most : i.scanned.raw ≤ GREATEST_RAW
