-- What a list of calls does with one body, and what it delivers.
use Rattle.std.specs.Prelude.{◌≡◌, ℕ, ◌-◌, ◌<◌, ◌≤◌, Bool, true, false, nat_lt, List, [], ◌∷◌, ◌++◌, length, drop, take, Option, Some, None, unwrap_or, if◌then◌else◌}
use Rattle.cy_event.specs.Bodies.{Body, bad, body_of, body_start, content_in, malformed_at, partial, scan_bytes, trailers_too_large, whole}
use Rattle.cy_event.specs.declared.framing.Framing.{Framing}
use Rattle.cy_in.specs.Intakes.{Intake, after_read, after_scan, after_swallow, content_read, is_whole, scan_answer, started, swallow_answer, taken_by}
use Rattle.cy_in.specs.Reads.{reply_of_read}
use Rattle.cy_event.specs.declared.steps.Reply.{Reply}
use Rattle.cy_event.specs.declared.steps.Reply.TheVariants as reply
use Rattle.cy_in.specs.declared.fault.BodyFault.TheVariants as fault
use Rattle.cy_in.specs.declared.fault.Scan.{Scan}
use Rattle.cy_in.specs.declared.fault.Scan.TheVariants as scan

-- ---- the calls

-- bytes that the ring took, or a call; a read has a slice of so many bytes
pub data Turn : Type 0 where
  put_in : List ℕ → Turn
  scan_all : Turn
  read_into : ℕ → Turn
  swallow_all : Turn

-- A body on its way: its intake, the bytes that the ring holds, all that came from the body's first on, those that had
-- come at the last scan, and the content that was delivered.
pub record Course : Type 0 where
  pub intake : Intake
  pub input : List ℕ
  pub came : List ℕ
  pub seen : List ℕ
  pub given : List ℕ

-- at the start of a body, where the ring holds these bytes
abbrev pub begun : Framing → List ℕ → Course
begun f input = record { intake = started f; input = input; came = input; seen = []; given = [] }

abbrev pub putting : Course → List ℕ → Course
putting c bytes = record c { input = c.input ++ bytes; came = c.came ++ bytes }

abbrev pub scanning : ℕ → Course → Course
scanning max_trailer c = record c { intake = after_scan max_trailer c.intake c.input; seen = c.came }

abbrev pub reading : Course → ℕ → Course
reading c n =
    let next = after_read n c.intake c.input in
    record c { intake = next; input = drop (taken_by c.intake next) c.input; given = c.given ++ content_read n c.intake c.input }

abbrev pub swallowing : ℕ → Course → Course
swallowing max_trailer c =
    let next = after_swallow max_trailer c.intake c.input in
    record c { intake = next; input = drop (taken_by c.intake next) c.input; seen = c.came }

-- no read may be called behind a swallow, and none counts there
abbrev pub reading_at : Course → ℕ → Option ℕ → Course
reading_at c n None = reading c n
reading_at c n (Some from) = c

abbrev pub after_turn : ℕ → Course → Turn → Course
after_turn max_trailer c (put_in bytes) = putting c bytes
after_turn max_trailer c scan_all = scanning max_trailer c
after_turn max_trailer c (read_into n) = reading_at c n c.intake.swallowed_from
after_turn max_trailer c swallow_all = swallowing max_trailer c

abbrev pub after_turns : ℕ → Course → List Turn → Course
after_turns max_trailer c [] = c
after_turns max_trailer c (t ∷ turns) = after_turns max_trailer (after_turn max_trailer c t) turns

-- ---- what they deliver

-- how many of the bytes belong to the body
abbrev pub belonging : ℕ → Framing → List ℕ → ℕ
belonging max_trailer f bytes = (scan_bytes max_trailer (body_start f) bytes).raw

abbrev pub scan_of : Body → Scan
scan_of (whole content n) = scan.Whole
scan_of (partial content) = scan.Partial
scan_of (bad (malformed_at n)) = scan.Bad (fault.BadChunk n)
scan_of (bad trailers_too_large) = scan.Bad fault.TrailerTooLarge

abbrev pub is_whole_body : Body → Bool
is_whole_body (whole content n) = true
is_whole_body _ = false

-- the content that had come at the last scan and wasn't delivered
abbrev pub content_due : ℕ → Framing → Course → List ℕ
content_due max_trailer f c = drop (length c.given) (content_in max_trailer (body_start f) c.seen)

-- what a read of at most n bytes answers, of which these wait
abbrev pub read_answer : ℕ → List ℕ → Bool → Reply
read_answer n due ends =
    if nat_lt 0 (length due) then reply.Got (length (take n due))
    else if ends then reply.GotEnd
    else reply.Again

-- a read gives the content that is due, as much as fits, and tells the end exactly where the body is whole
pub record IsReadOn (max_trailer : ℕ) (f : Framing) (c : Course) (n : ℕ) : Type 0 where
  pub content : content_read n c.intake c.input ≡ take n (content_due max_trailer f c)
  pub answer : reply_of_read n c.intake c.input ≡ read_answer n (content_due max_trailer f c) (is_whole_body (body_of max_trailer f c.seen))

-- what a swallow answers where so many bytes were swallowed of a body that is as a scan says
abbrev pub swallow_said : ℕ → ℕ → Scan → Scan
swallow_said max_swallow n said = if nat_lt max_swallow n then scan.Bad fault.SwallowLimit else said

-- a swallow takes all bytes that came and belong to the body, and counts those since the first swallow
pub record IsSwallowed (max_trailer : ℕ) (f : Framing) (c : Course) (max_swallow : ℕ) : Type 0 where
  pub taken : (after_swallow max_trailer c.intake c.input).taken.raw ≡ belonging max_trailer f c.came
  pub answer : swallow_answer max_swallow (after_swallow max_trailer c.intake c.input)
      ≡ swallow_said max_swallow (belonging max_trailer f c.came - unwrap_or c.intake.swallowed_from c.intake.taken.raw) (scan_of (body_of max_trailer f c.came))

-- What was taken is the mark behind the first bytes that came, and these hold just the content that was delivered. Until
-- the whole body is taken, no fewer bytes hold as much.
pub record IsTaken (max_trailer : ℕ) (f : Framing) (c : Course) : Type 0 where
  pub mark : c.intake.taken ≡ scan_bytes max_trailer (body_start f) (take c.intake.taken.raw c.came)
  pub content : content_in max_trailer (body_start f) (take c.intake.taken.raw c.came) ≡ c.given
  pub fewest : is_whole c.intake.taken.stage ≡ false →
      (j : ℕ) → j < c.intake.taken.raw → length (content_in max_trailer (body_start f) (take j c.came)) < length c.given

-- The content delivered is a prefix of the body's, the ring holds all that wasn't taken, and no byte behind the body is
-- taken. While nothing was swallowed, the bytes taken hold just the content delivered. A scan answers what all bytes that
-- came are, a swallow takes all of them that belong to the body, and a read goes on where the last one ended.
pub record Delivers (max_trailer : ℕ) (f : Framing) (c : Course) : Type 0 where
  pub in_order : (later : List ℕ) × (content_in max_trailer (body_start f) c.came ≡ c.given ++ later)
  pub ring : c.input ≡ drop c.intake.taken.raw c.came
  pub untouched : c.intake.taken.raw ≤ belonging max_trailer f c.came
  pub taken : c.intake.swallowed_from ≡ None → IsTaken max_trailer f c
  pub scans : scan_answer (after_scan max_trailer c.intake c.input) ≡ scan_of (body_of max_trailer f c.came)
  pub swallows : (max_swallow : ℕ) → IsSwallowed max_trailer f c max_swallow
  pub reads : c.intake.swallowed_from ≡ None → (n : ℕ) → IsReadOn max_trailer f c n

abbrev pub EveryCourseDelivers : Type 0
EveryCourseDelivers = (max_trailer : ℕ) (f : Framing) (input : List ℕ) (turns : List Turn) →
    Delivers max_trailer f (after_turns max_trailer (begun f input) turns)
