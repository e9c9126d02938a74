-- What is done with a head that was read.
use Rattle.std.specs.Prelude.{ℕ, Bool, List, Option, Some, None, Result, Ok, Err, codes, bytes_eq, if◌then◌else◌}
use Rattle.cy_event.specs.Framings.{Framed, framed, bad_request, not_implemented}
use Rattle.cy_event.specs.Heads.{Head}
use Rattle.cy_event.specs.Targets.{PathAndQuery, target_of}
use Rattle.cy_map.specs.declared.rule.Rule.{Rule}
use Rattle.cy_map.specs.Mapping.{mapped}

pub data Verdict : Type 0 where
  -- it is refused with this status
  turned_away : ℕ → Verdict
  -- no rule serves its path
  unserved : Framed → Verdict
  -- this rule does
  served : Rule → Framed → Verdict

-- no rule serves the path (RFC 9110, section 15.5.5)
abbrev pub not_found_status : ℕ
not_found_status = 404

abbrev pub has_method : List ℕ → Head → Bool
has_method method head = bytes_eq head.method method

-- a tunnel is asked for (RFC 9110, section 9.3.6)
abbrev pub is_connect : Head → Bool
is_connect head = has_method (codes "CONNECT") head

-- the answer has no content (RFC 9110, section 9.3.2)
abbrev pub is_head_method : Head → Bool
is_head_method head = has_method (codes "HEAD") head

-- HEAD requests aren't served so far
abbrev pub is_unbuilt : Head → Bool
is_unbuilt head = is_head_method head

abbrev pub by_rule : Framed → Option Rule → Verdict
by_rule f None = unserved f
by_rule f (Some rule) = served rule f

abbrev pub by_framing : List Rule → Head → List ℕ → Result Framed ℕ → Verdict
by_framing rules head path (Err status) = turned_away status
by_framing rules head path (Ok f) = if is_unbuilt head then turned_away not_implemented else by_rule f (mapped rules path)

abbrev pub by_target : List Rule → Head → Option PathAndQuery → Verdict
by_target rules head None = turned_away bad_request
by_target rules head (Some named) = by_framing rules head named.path (framed head.minor head.fields)

-- The first of these that applies: a tunnel, a bad target, a bad framing or an expectation that isn't met, what isn't
-- served so far, a path without a rule; else the rule that serves the path.
unfoldable pub verdict_of : List Rule → Head → Verdict
verdict_of rules head =
    if is_connect head then turned_away not_implemented
    else by_target rules head (target_of head.method head.target)
