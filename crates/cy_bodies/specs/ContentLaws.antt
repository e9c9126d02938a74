-- Laws of what requests are given of their bodies, over every list of entries, in the words of the grammar of bodies. Each
-- is the contract of a public function without a body.
use Rattle.std.specs.Prelude.{◌≡◌, ℕ, List, ◌++◌, Some}
use Rattle.cy_event.specs.declared.limits.Limits.{Limits}
use Rattle.cy_event.specs.declared.steps.Reply.TheVariants as reply
use Rattle.cy_event.specs.BodyGrammar.{IsBody}
use Rattle.cy_map.specs.declared.rule.Rule.{Rule}
use Rattle.cy_model.specs.Entries.{Entry, reply_to, trace_of}
use Rattle.cy_model.specs.Folds.{begun_count, bytes_of, last_taken}
use Rattle.cy_model.specs.Inputs.{behind_head}
use Rattle.cy_model.specs.Marks.{TakenUp, Trace}
use Rattle.cy_bodies.specs.Handed.{content_came, handed_to, numbered}

-- ---- what a request is given (RFC 9112, sections 6 and 7.1; Servlet 3.1, section 3.7)

-- the first list stands at the front of the second
abbrev pub IsPrefix : List ℕ → List ℕ → Type 0
IsPrefix xs ys = (more : List ℕ) × (ys ≡ xs ++ more)

-- What was given is a prefix of the content in the bytes that came, and of that of the body that is written there, or
-- comes to be by bytes behind them.
pub record IsContentOf (given bytes : List ℕ) (r : TakenUp) : Type 0 where
  pub came : IsPrefix given (content_came bytes r)
  pub written : (more body content behind : List ℕ) → IsBody r.max_trailer r.framing body content
      → body ++ behind ≡ behind_head bytes r ++ more → IsPrefix given content

-- Whatever the entries of a connection are: what the replies handed over to each of its requests, joined in order, is such
-- a prefix. So each byte of the content is given once at most, and in its order.
abbrev pub RequestsGetTheirContent : Type 0
RequestsGetTheirContent =
    (limits : Limits) (rules : List Rule) (entries : List (ℕ × Entry)) (number : ℕ) (r : TakenUp)
    → numbered number (trace_of limits rules entries) ≡ Some r
    → IsContentOf (handed_to limits rules number entries) (bytes_of (trace_of limits rules entries)) r

-- a body is written in the bytes behind a head, and this is all of its content
pub record IsAllContentOf (given bytes : List ℕ) (r : TakenUp) : Type 0 where
  pub body : List ℕ
  pub behind : List ℕ
  pub written : IsBody r.max_trailer r.framing body given
  pub front : behind_head bytes r ≡ body ++ behind

-- the last request of a trace was given all of its content
pub record LastGotAll (given : List ℕ) (T : Trace) : Type 0 where
  pub last : TakenUp
  pub taken : last_taken T ≡ Some last
  pub all : IsAllContentOf given (bytes_of T) last

-- Whatever the entries of a connection are: the next is answered that the content has ended only where the body of the
-- last request is written in the bytes that came, and the replies handed over all of its content.
abbrev pub EndsAreToldLast : Type 0
EndsAreToldLast =
    (limits : Limits) (rules : List Rule) (entries : List (ℕ × Entry)) (t : ℕ) (e : Entry)
    → (reply_to limits rules t (trace_of limits rules entries) e).reply ≡ reply.GotEnd
    → LastGotAll (handed_to limits rules (begun_count (trace_of limits rules entries)) entries)
    (trace_of limits rules entries)
