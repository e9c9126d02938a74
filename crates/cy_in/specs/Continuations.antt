-- Laws that say what may stand behind the bytes of a body: what isn't bad goes on to a written body, and what is bad
-- doesn't. A limit of trailers has room for the last CR LF.
use Rattle.std.specs.Prelude.{◌≡◌, ℕ, ◌+◌, ◌<◌, ◌≤◌, List, ◌∷◌, ◌++◌, length, take}
use Rattle.cy_event.specs.Bodies.{BadBody, bad, body_of, malformed_at, partial, trailers_too_large}
use Rattle.cy_event.specs.BodyGrammar.{IsBody}
use Rattle.cy_event.specs.declared.framing.Framing.{Framing}

-- some bytes behind these make a written body, or a body already stands in front of them
pub record GoesOn (max_trailer : ℕ) (f : Framing) (bytes : List ℕ) : Type 0 where
  pub more : List ℕ
  pub body : List ℕ
  pub content : List ℕ
  pub behind : List ℕ
  pub written : IsBody max_trailer f body content
  pub same : body ++ behind ≡ bytes ++ more

-- A part of a body becomes a written body by some bytes behind it.
abbrev pub PartialBodiesGoOn : Type 0
PartialBodiesGoOn = (max_trailer : ℕ) (f : Framing) (bytes held : List ℕ) → 2 ≤ max_trailer →
    body_of max_trailer f bytes ≡ partial held →
    (more content : List ℕ) × IsBody max_trailer f (bytes ++ more) content

-- No byte more of content stands in every body that the bytes go on to: the content of a part is all that does.
abbrev pub NoMoreContentStands : Type 0
NoMoreContentStands = (max_trailer : ℕ) (f : Framing) (bytes held : List ℕ) (next : ℕ) → 2 ≤ max_trailer →
    body_of max_trailer f bytes ≡ partial held →
    (more content : List ℕ) × IsBody max_trailer f (bytes ++ more) content × ((beyond : List ℕ) → content ≡ held ++ (next ∷ beyond) → ⊥)

-- Bytes are bad exactly where they don't go on to a written body.
pub record IsBadExactly (max_trailer : ℕ) (f : Framing) (bytes : List ℕ) : Type 0 where
  pub ends : (why : BadBody) → body_of max_trailer f bytes ≡ bad why → GoesOn max_trailer f bytes → ⊥
  pub only : (GoesOn max_trailer f bytes → ⊥) → (why : BadBody) × (body_of max_trailer f bytes ≡ bad why)

abbrev pub BadExactlyWhereNothingGoesOn : Type 0
BadExactlyWhereNothingGoesOn = (max_trailer : ℕ) (f : Framing) (bytes : List ℕ) → 2 ≤ max_trailer → IsBadExactly max_trailer f bytes

-- Why the byte at this place makes a body bad: no limit of trailers lets the bytes up to it go on, or a greater one does.
abbrev pub IsCause : Framing → List ℕ → ℕ → BadBody → Type 0
IsCause f bytes place (malformed_at n) = (n ≡ place) × ((limit : ℕ) → GoesOn limit f (take (place + 1) bytes) → ⊥)
IsCause f bytes place trailers_too_large = (limit : ℕ) × GoesOn limit f (take (place + 1) bytes)

-- the byte at this place is the first behind which nothing goes on
pub record IsFirstBad (max_trailer : ℕ) (f : Framing) (bytes : List ℕ) (place : ℕ) (why : BadBody) : Type 0 where
  pub here : place < length bytes
  pub before : GoesOn max_trailer f (take place bytes)
  pub behind : GoesOn max_trailer f (take (place + 1) bytes) → ⊥
  pub cause : IsCause f bytes place why

-- The first byte behind which nothing goes on makes a body bad, and the trailers are too large exactly where a greater
-- limit would let it go on.
abbrev pub TheFirstBadByteDecides : Type 0
TheFirstBadByteDecides = (max_trailer : ℕ) (f : Framing) (bytes : List ℕ) (why : BadBody) → 2 ≤ max_trailer →
    body_of max_trailer f bytes ≡ bad why → (place : ℕ) × IsFirstBad max_trailer f bytes place why
