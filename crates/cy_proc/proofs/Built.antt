-- A mark that is built, and what is due.
use Rattle.std.proofs.Common.{◌≡◌, ℕ, true, false, cond, List, ◌∷◌, Option, Some, None, refl, Ok, Err}
use Rattle.cy_event.specs.declared.limits.Limits.{Limits}
use Rattle.cy_event.specs.Framings.{Framed, framed, not_implemented}
use Rattle.cy_event.specs.Heads.{Front, Head, awaited, found, malformed}
use Rattle.cy_event.specs.Targets.{PathAndQuery, target_of}
use Rattle.cy_map.specs.declared.rule.Rule.{Rule}
use Rattle.cy_map.specs.Mapping.{mapped}
use Rattle.cy_model.specs.Marks.{Mark, Trace}
use Rattle.cy_model.specs.Settling.{Due, nothing, refusal, not_found, request, due_by_front, due_by_verdict}
use Rattle.cy_model.specs.Unbuilt.{NothingUnbuilt, is_unbuilt_mark, is_unbuilt_request}
use Rattle.cy_model.specs.Verdicts.{Verdict, turned_away, unserved, served, by_framing, by_rule, by_target, is_connect, is_unbuilt, verdict_of}

-- one mark more
pub built_more : (t : ℕ) (m : Mark) (T : Trace) → is_unbuilt_mark m ≡ false → NothingUnbuilt T → NothingUnbuilt ((t, m) ∷ T)
built_more t m T built before = (built, before)

-- ---- a request that is taken up has no body, and isn't one of HEAD

-- a verdict by which a request begins
IsBuiltVerdict : Head → Verdict → Type 0
IsBuiltVerdict head (turned_away status) = Unit {0}
IsBuiltVerdict head (unserved f) = is_unbuilt head ≡ false
IsBuiltVerdict head (served rule f) = is_unbuilt head ≡ false

rule_built : (head : Head) (f : Framed) (o : Option Rule) → is_unbuilt head ≡ false → IsBuiltVerdict head (by_rule f o)
unfolding IsBuiltVerdict
rule_built head f None built = built
rule_built head f (Some rule) built = built

framing_built : (rules : List Rule) (head : Head) (path : List ℕ) (f : Framed) → IsBuiltVerdict head (cond (is_unbuilt head) (turned_away not_implemented) (by_rule f (mapped rules path)))
unfolding IsBuiltVerdict
framing_built rules head path f =
    elim (is_unbuilt head) as (λ v. is_unbuilt head ≡ v → IsBuiltVerdict head (cond v (turned_away not_implemented) (by_rule f (mapped rules path)))) [
      | true ↦ λ e. tt
      | false ↦ λ e. rule_built head f (mapped rules path) e
    ] refl

target_built : (rules : List Rule) (head : Head) (o : Option PathAndQuery) → IsBuiltVerdict head (by_target rules head o)
unfolding IsBuiltVerdict
target_built rules head None = tt
target_built rules head (Some named) =
    elim (framed head.minor head.fields) as (λ r. IsBuiltVerdict head (by_framing rules head named.path r)) [
      | Ok f ↦ framing_built rules head named.path f
      | Err status ↦ tt
    ]

verdict_built : (rules : List Rule) (head : Head) → IsBuiltVerdict head (verdict_of rules head)
unfolding IsBuiltVerdict verdict_of
verdict_built rules head =
    elim (is_connect head) as (λ v. IsBuiltVerdict head (cond v (turned_away not_implemented) (by_target rules head (target_of head.method head.target)))) [
      | true ↦ tt
      | false ↦ target_built rules head (target_of head.method head.target)
    ]

-- what is due begins no request that isn't built
unfoldable pub IsBuiltDue : Due → Type 0
IsBuiltDue nothing = Unit {0}
IsBuiltDue (refusal status to_head) = Unit {0}
IsBuiltDue (not_found r) = is_unbuilt_request r ≡ false
IsBuiltDue (request r) = is_unbuilt_request r ≡ false

pub due_built : (limits : Limits) (rules : List Rule) (place number : ℕ) (f : Front) → IsBuiltDue (due_by_front limits rules place number f)
unfolding IsBuiltDue IsBuiltVerdict
due_built limits rules place number awaited = tt
due_built limits rules place number malformed = tt
due_built limits rules place number (found size head) =
    elim (verdict_of rules head) as (λ v. IsBuiltVerdict head v → IsBuiltDue (due_by_verdict limits place number size head v)) [
      | turned_away status ↦ λ b. tt
      | unserved f ↦ λ b. b
      | served rule f ↦ λ b. b
    ] (verdict_built rules head)
