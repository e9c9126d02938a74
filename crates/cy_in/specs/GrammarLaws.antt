-- Laws that join how bodies are read to how they are written.
use Rattle.std.specs.Prelude.{◌≡◌, ℕ, ◌≤◌, List, ◌++◌, length, take}
use Rattle.cy_event.specs.Bodies.{BadBody, bad, body_of, partial, whole}
use Rattle.cy_event.specs.BodyGrammar.{IsBody}
use Rattle.cy_event.specs.declared.framing.Framing.{Framing}

-- What is written as a body is read as this body, of this content and length, whatever stands behind it.
abbrev pub WrittenBodiesAreWhole : Type 0
WrittenBodiesAreWhole = (max_trailer : ℕ) (f : Framing) (bytes content more : List ℕ) → IsBody max_trailer f bytes content →
    body_of max_trailer f (bytes ++ more) ≡ whole content (length bytes)

-- What is bad begins no body, however it goes on.
abbrev pub BadBodiesHaveNoContinuation : Type 0
BadBodiesHaveNoContinuation = (max_trailer : ℕ) (f : Framing) (bytes more body behind content : List ℕ) (why : BadBody) →
    body_of max_trailer f bytes ≡ bad why → IsBody max_trailer f body content → body ++ behind ≡ bytes ++ more → ⊥

-- The content of a part of a body stands first in every body that goes on so.
abbrev pub PartialContentStays : Type 0
PartialContentStays = (max_trailer : ℕ) (f : Framing) (bytes more body behind held content : List ℕ) →
    body_of max_trailer f bytes ≡ partial held → IsBody max_trailer f body content → body ++ behind ≡ bytes ++ more →
    (later : List ℕ) × (content ≡ held ++ later)

-- At most one body stands at the front of the bytes, so that none of them belongs to two requests.
abbrev pub OneBodyStandsInFront : Type 0
OneBodyStandsInFront = (max_trailer : ℕ) (f : Framing) (a behind b beyond content other : List ℕ) →
    IsBody max_trailer f a content → IsBody max_trailer f b other → a ++ behind ≡ b ++ beyond → (a ≡ b) × (content ≡ other)

-- What is read as a whole body is written as one: its first bytes are the text of a body of this content.
abbrev pub WholeBodiesAreWritten : Type 0
WholeBodiesAreWritten = (max_trailer : ℕ) (f : Framing) (bytes content : List ℕ) (n : ℕ) → body_of max_trailer f bytes ≡ whole content n →
    (n ≤ length bytes) × IsBody max_trailer f (take n bytes) content
