-- Laws of bodies over every list of entries, in the words of the grammar of bodies. Each is the contract of a public
-- function without a body.
use Rattle.std.specs.Prelude.{◌≡◌, ◌<◌, ◌≤◌, ◌⊎◌, ℕ, ◌+◌, true, List, [], ◌∷◌, ◌++◌, length, Option, Some, None, is_some}
use Rattle.cy_event.specs.declared.limits.Limits.{Limits}
use Rattle.cy_event.specs.declared.steps.CloseCause.TheVariants.{InputEnd}
use Rattle.cy_event.specs.BodyGrammar.{IsBody}
use Rattle.cy_in.specs.Continuations.{GoesOn}
use Rattle.cy_map.specs.declared.rule.Rule.{Rule}
use Rattle.cy_model.specs.Entries.{Entry, trace_of}
use Rattle.cy_model.specs.Folds.{bytes_of, cause_of, has_ended, last_taken, requests_of}
use Rattle.cy_model.specs.Inputs.{behind_head, consumed, swallowed}
use Rattle.cy_model.specs.Marks.{TakenUp, Trace}
use Rattle.cy_model.specs.Settling.{front_of, is_awaited, may_begin, settled}

-- ---- how much is held

-- at this point of a trace and at each before it at most 16,384 of the bytes that came aren't consumed; the bound is own
abbrev pub HoldsFew : Trace → Type 0
HoldsFew [] = Unit {0}
HoldsFew ((t, m) ∷ T) = (length (bytes_of ((t, m) ∷ T)) ≤ consumed ((t, m) ∷ T) + 16384) × HoldsFew T

-- whatever the entries of a connection are, between two moves of the container too
abbrev pub BytesAreHeldWithin : Type 0
BytesAreHeldWithin =
    (limits : Limits) (rules : List Rule) (entries : List (ℕ × Entry)) → HoldsFew (trace_of limits rules entries)

-- ---- where heads stand (RFC 9112, sections 6.3, 9.3 and 11.2)

-- the bytes begin with the head of a request, and this is what stands behind it
pub record BeginsWithHead (r : TakenUp) (bytes : List ℕ) : Type 0 where
  pub head : List ℕ
  pub behind : List ℕ
  pub size : length head ≡ r.size
  pub front : bytes ≡ head ++ behind

-- the bytes begin with the written body of a request, and this is what stands behind it
pub record BeginsWithBody (r : TakenUp) (bytes : List ℕ) : Type 0 where
  pub body : List ℕ
  pub behind : List ℕ
  pub content : List ℕ
  pub written : IsBody r.max_trailer r.framing body content
  pub front : bytes ≡ body ++ behind

-- Bytes that begin at this place are cut into the requests: the head of each, its body as it is written, and then the
-- next head. What stands behind the last head belongs to no other.
abbrev pub AreCut : ℕ → List ℕ → List TakenUp → Type 0
AreCut from bytes [] = Unit {0}
AreCut from bytes (r ∷ []) = (r.place ≡ from) × BeginsWithHead r bytes
AreCut from bytes (r ∷ q ∷ rs) =
    (r.place ≡ from) × (h : BeginsWithHead r bytes) × (b : BeginsWithBody r h.behind)
    × AreCut (from + r.size + length b.body) b.behind (q ∷ rs)

-- a head is looked for at this place: behind the written body of the last request, or at the first byte
abbrev pub IsNextPlace : List ℕ → Option TakenUp → ℕ → Type 0
IsNextPlace bytes None place = place ≡ 0
IsNextPlace bytes (Some last) place =
    (b : BeginsWithBody last (behind_head bytes last)) × (place ≡ last.place + last.size + length b.body)

-- the bytes of a trace, with whatever comes later, are cut into its requests, and the next head stands behind the last body
pub record FollowBodies (T : Trace) : Type 0 where
  pub cut : (more : List ℕ) → AreCut 0 (bytes_of T ++ more) (requests_of T)
  pub next : may_begin T ≡ true → IsNextPlace (bytes_of T) (last_taken T) (consumed T)

-- Whatever the entries of a connection are, and so whatever was read or passed over and however its bytes were cut: each
-- head stands where the written body of the request before it ends, and no byte belongs to two requests.
abbrev pub HeadsFollowWrittenBodies : Type 0
HeadsFollowWrittenBodies =
    (limits : Limits) (rules : List Rule) (entries : List (ℕ × Entry)) → FollowBodies (trace_of limits rules entries)

-- ---- input that ends (RFC 9112, section 8)

-- the body of the last request isn't written in the bytes that came
abbrev pub IsUnwritten : Trace → Type 0
IsUnwritten T =
    (r : TakenUp) × (last_taken T ≡ Some r)
    × ((body content behind : List ℕ) → IsBody r.max_trailer r.framing body content
    → body ++ behind ≡ behind_head (bytes_of T) r → ⊥)

-- the input has ended, within a body or where a head is awaited
pub record EndsWithin (limits : Limits) (T : Trace) : Type 0 where
  pub ended : has_ended T ≡ true
  pub within : IsUnwritten T ⊎ (is_awaited (front_of limits T) ≡ true)

-- whatever the entries of a connection are: for the end of its input it closes only where that is so
abbrev pub InputEndsWithin : Type 0
InputEndsWithin =
    (limits : Limits) (rules : List Rule) (entries : List (ℕ × Entry))
    → cause_of (trace_of limits rules entries) ≡ Some InputEnd → EndsWithin limits (trace_of limits rules entries)

-- ---- bodies that close a connection (RFC 9112, sections 7.1 and 9.3)

-- There is a cause to close as soon as the bytes that came show that the last request has no body, since none goes on from
-- them, and as soon as more of its body was passed over than may be. A limit of trailers has room for the last CR LF.
pub record ClosesWrong (limits : Limits) (T : Trace) : Type 0 where
  pub bad : (r : TakenUp) → last_taken T ≡ Some r → 2 ≤ r.max_trailer
      → (GoesOn r.max_trailer r.framing (behind_head (bytes_of T) r) → ⊥) → is_some (cause_of T) ≡ true
  pub long : limits.max_swallow < swallowed T → is_some (cause_of T) ≡ true

-- so it is of each trace that is settled, and whatever the entries of a connection are; a head may have one byte at least
pub record WrongBodiesClose : Type 0 where
  pub settling : (limits : Limits) (rules : List Rule) (t : ℕ) (T : Trace)
      → ClosesWrong limits (settled limits rules t T)
  pub entries : (limits : Limits) (rules : List Rule) (entries : List (ℕ × Entry)) → 1 ≤ limits.max_head
      → ClosesWrong limits (trace_of limits rules entries)
