-- What a request was given of its body (Servlet 3.1, section 3.7), by the replies to the entries of its connection.
use Rattle.std.specs.Prelude.{ℕ, ◌+◌, List, [], ◌∷◌, ◌++◌, Option, Some, None, if◌then◌else◌, ◌==◌}
use Rattle.cy_event.specs.declared.limits.Limits.{Limits}
use Rattle.cy_event.specs.Bodies.{body_start, content_in}
use Rattle.cy_map.specs.declared.rule.Rule.{Rule}
use Rattle.cy_model.specs.Entries.{Entry, reply_to, trace_of}
use Rattle.cy_model.specs.Folds.{begun_count}
use Rattle.cy_model.specs.Inputs.{behind_head}
use Rattle.cy_model.specs.Marks.{TakenUp, Trace, began}

-- the request of this number, where so many were begun; the first has the number 1
abbrev pub numbered : ℕ → Trace → Option TakenUp
numbered number [] = None
numbered number ((t, began r) ∷ T) =
    if begun_count T + 1 == number then Some r else numbered number T
numbered number ((t, m) ∷ T) = numbered number T

-- what the replies to the entries handed over while this was the number of the last request, in order
abbrev pub handed_to : Limits → List Rule → ℕ → List (ℕ × Entry) → List ℕ
handed_to limits rules number [] = []
handed_to limits rules number ((t, e) ∷ entries) =
    let T = trace_of limits rules entries in
    handed_to limits rules number entries
    ++ (if begun_count T == number then (reply_to limits rules t T e).got else [])

-- the content in the bytes that came behind the head of a request (RFC 9112, section 6)
abbrev pub content_came : List ℕ → TakenUp → List ℕ
content_came bytes r = content_in r.max_trailer (body_start r.framing) (behind_head bytes r)
