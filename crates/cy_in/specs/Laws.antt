-- Laws of bodies. Each is the contract of a public function without a body.
use Rattle.std.specs.Prelude.{◌≡◌, false, ◌≢◌, ℕ, ◌<◌, ◌≤◌, true, List, ◌++◌, length, min, take}
use Rattle.cy_in.specs.Intakes.{Intake, after_read, ahead, content_read, has_content, is_ready, waiting}
use Rattle.cy_in.specs.Reads.{reply_of_read}
use Rattle.cy_event.specs.declared.steps.Reply.TheVariants as reply
use Rattle.cy_event.specs.Bodies.{body_of, body_start, content_in, give_bytes, is_over, scan_bytes}
use Rattle.cy_event.specs.declared.body.BodyMark.{BodyMark}
use Rattle.cy_event.specs.declared.framing.Framing.{Framing}

-- however the bytes are cut, the pieces lead where all of them lead, and have the same content
pub record IsCutAnywhere (max_trailer : ℕ) (m : BodyMark) (xs ys : List ℕ) : Type 0 where
  pub mark : scan_bytes max_trailer m (xs ++ ys) ≡ scan_bytes max_trailer (scan_bytes max_trailer m xs) ys
  pub content : content_in max_trailer m (xs ++ ys) ≡ content_in max_trailer m xs ++ content_in max_trailer (scan_bytes max_trailer m xs) ys

abbrev pub PiecesAreTheWhole : Type 0
PiecesAreTheWhole = (max_trailer : ℕ) (m : BodyMark) (xs ys : List ℕ) → IsCutAnywhere max_trailer m xs ys

-- what is whole or bad stays so, with its content, whatever comes behind it
pub record IsSettled (max_trailer : ℕ) (f : Framing) (bytes more : List ℕ) : Type 0 where
  pub mark : scan_bytes max_trailer (body_start f) (bytes ++ more) ≡ scan_bytes max_trailer (body_start f) bytes
  pub body : body_of max_trailer f (bytes ++ more) ≡ body_of max_trailer f bytes

abbrev pub BodiesStay : Type 0
BodiesStay = (max_trailer : ℕ) (f : Framing) (bytes more : List ℕ) →
    is_over (scan_bytes max_trailer (body_start f) bytes).stage ≡ true → IsSettled max_trailer f bytes more

-- where all the bytes hold n bytes of content, fewer than the first k of them hold less
abbrev pub NoFewerHold : ℕ → ℕ → BodyMark → List ℕ → ℕ → Type 0
NoFewerHold max_trailer n m bytes k = n ≤ length (content_in max_trailer m bytes) →
    (j : ℕ) → j < k → length (content_in max_trailer m (take j bytes)) < n

-- A piece of content that is given, and the mark behind it: it is the first n bytes of the content, or all there is; the
-- mark is that of the bytes that it passed by, which hold just this content, and are the fewest that hold n bytes of it.
pub record IsGiven (max_trailer n : ℕ) (m : BodyMark) (bytes : List ℕ) : Type 0 where
  pub content : (give_bytes max_trailer n m bytes).content ≡ take n (content_in max_trailer m bytes)
  pub passed : (k : ℕ) × ((k ≤ length bytes)
      × (((give_bytes max_trailer n m bytes).mark ≡ scan_bytes max_trailer m (take k bytes))
      × ((give_bytes max_trailer n m bytes).content ≡ content_in max_trailer m (take k bytes))))
  pub shortest : NoFewerHold max_trailer n m bytes passed.0

abbrev pub ContentIsGivenInOrder : Type 0
ContentIsGivenInOrder = (max_trailer n : ℕ) (m : BodyMark) (bytes : List ℕ) → IsGiven max_trailer n m bytes

-- A read, where content waits: it gives what stands in the bytes that it takes, and they are the fewest of those scanned
-- that hold as much content as waits and fits.
pub record TakesFewest (n : ℕ) (i : Intake) (input : List ℕ) : Type 0 where
  pub passed : ℕ
  pub mark : (after_read n i input).taken ≡ scan_bytes i.max_trailer i.taken (take passed (take (ahead i) input))
  pub content : content_read n i input ≡ content_in i.max_trailer i.taken (take passed (take (ahead i) input))
  pub fewest : NoFewerHold i.max_trailer (min n (waiting i)) i.taken (take (ahead i) input) passed

abbrev pub ReadsTakeTheFewest : Type 0
ReadsTakeTheFewest = (n : ℕ) (i : Intake) (input : List ℕ) → has_content i ≡ true → TakesFewest n i input

-- ready exactly where a read of one byte would answer something other than `Again`
pub record TellsReads (i : Intake) (input : List ℕ) : Type 0 where
  pub ready : is_ready i ≡ true → reply_of_read 1 i input ≢ reply.Again
  pub waits : is_ready i ≡ false → reply_of_read 1 i input ≡ reply.Again

abbrev pub ReadyTellsReads : Type 0
ReadyTellsReads = (i : Intake) (input : List ℕ) → TellsReads i input
