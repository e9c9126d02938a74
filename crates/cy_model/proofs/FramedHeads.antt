-- Each request that is taken up has the framing that its head has, and none that isn't served yet.
use Rattle.std.proofs.Common.{◌≡◌, ◌⊎◌, ⊎_elim, ℕ, ◌+◌, true, false, List, ◌∷◌, All, Option, Some, None, Result, Ok, Err, refl, sym, ◌∙◌, subst, if◌then◌else◌}
use Rattle.std.proofs.lemmas.List.Elements.{All-nil, All-push}
use Rattle.cy_event.specs.declared.limits.Limits.{Limits}
use Rattle.cy_event.specs.Framings.{Framed, framed, not_implemented}
use Rattle.cy_event.specs.Heads.{Head}
use Rattle.cy_event.specs.Targets.{PathAndQuery, target_of}
use Rattle.cy_map.specs.declared.rule.Rule.{Rule}
use Rattle.cy_map.specs.Mapping.{mapped}
use Rattle.cy_model.specs.Folds.{begun_count, requests_of}
use Rattle.cy_model.specs.Laws.{IsFramedByHead, RequestsAreFramed}
use Rattle.cy_model.specs.Marks.{Mark, began, TakenUp, Trace}
use Rattle.cy_model.specs.Settling.{Due, nothing, refusal, not_found, request, due_by_verdict, due_of}
use Rattle.cy_model.specs.Verdicts.{Verdict, turned_away, unserved, served, by_framing, by_rule, by_target, is_connect, is_unbuilt, verdict_of}
use Rattle.cy_model.proofs.InputInduction.{KeptByInput, brings, kept_by_input}
use Rattle.cy_model.proofs.Judged.{due_at_place}
use Rattle.cy_model.proofs.TraceInduction.{IsTakenAt, trace_keeps}

-- the head has this framing, and isn't one that isn't served yet
record HasFraming (head : Head) (f : Framed) : Type 0 where
  framed_so : framed head.minor head.fields ≡ Ok f
  built : is_unbuilt head ≡ false

IsSoFramed : Head → Verdict → Type 0
IsSoFramed head (turned_away status) = Unit {0}
IsSoFramed head (unserved f) = HasFraming head f
IsSoFramed head (served rule f) = HasFraming head f

rule_framed : (head : Head) (f : Framed) (o : Option Rule) → HasFraming head f → IsSoFramed head (by_rule f o)
unfolding IsSoFramed
rule_framed head f None h = h
rule_framed head f (Some rule) h = h

framing_framed : (rules : List Rule) (head : Head) (path : List ℕ) (x : Result Framed ℕ) → framed head.minor head.fields ≡ x
    → IsSoFramed head (by_framing rules head path x)
unfolding IsSoFramed
framing_framed rules head path (Err status) e = tt
framing_framed rules head path (Ok f) e =
    elim (is_unbuilt head) as (λ v. is_unbuilt head ≡ v → IsSoFramed head (if v then turned_away not_implemented else by_rule f (mapped rules path))) [
      | true ↦ λ q. tt
      | false ↦ λ q. rule_framed head f (mapped rules path) (record { framed_so = e; built = q })
    ] refl

target_framed : (rules : List Rule) (head : Head) (o : Option PathAndQuery) → IsSoFramed head (by_target rules head o)
unfolding IsSoFramed
target_framed rules head None = tt
target_framed rules head (Some named) = framing_framed rules head named.path (framed head.minor head.fields) refl

verdict_framed : (rules : List Rule) (head : Head) → IsSoFramed head (verdict_of rules head)
unfolding verdict_of IsSoFramed
verdict_framed rules head =
    elim (is_connect head) as (λ v. IsSoFramed head (if v then turned_away not_implemented else by_target rules head (target_of head.method head.target))) [
      | true ↦ tt
      | false ↦ target_framed rules head (target_of head.method head.target)
    ]

-- what is due of a head
IsDueFramed : Due → Type 0
IsDueFramed nothing = Unit {0}
IsDueFramed (refusal status to_head) = Unit {0}
IsDueFramed (not_found r) = IsFramedByHead r
IsDueFramed (request r) = IsFramedByHead r

due_framed : (limits : Limits) (place number size : ℕ) (head : Head) (v : Verdict) → IsSoFramed head v → IsDueFramed (due_by_verdict limits place number size head v)
unfolding IsSoFramed IsDueFramed
due_framed limits place number size head (turned_away status) h = tt
due_framed limits place number size head (unserved f) h = record { framing = f; of_head = h.framed_so; same = refl; built = h.built }
due_framed limits place number size head (served rule f) h = record { framing = f; of_head = h.framed_so; same = refl; built = h.built }

pub taken_framed : (limits : Limits) (rules : List Rule) (r : TakenUp) (T : Trace) → IsTakenAt limits r T
    → (due_of limits rules T ≡ request r) ⊎ (due_of limits rules T ≡ not_found r) → IsFramedByHead r
unfolding IsDueFramed
taken_framed limits rules r T at due =
    let here = sym (due_at_place limits rules r T at) in
    let known = due_framed limits r.place (begun_count T + 1) r.size r.head (verdict_of rules r.head) (verdict_framed rules r.head) in
    ⊎_elim (λ d. subst IsDueFramed (here ∙ d) known) (λ d. subst IsDueFramed (here ∙ d) known) due

framed_by_input : (limits : Limits) (rules : List Rule) → KeptByInput limits rules (λ T. All IsFramedByHead (requests_of T))
framed_by_input limits rules = record {
  others = λ t m T brought all. subst (All IsFramedByHead) (sym (other_requests t m T brought)) all;
  comes = λ t b T taken all. all;
  begins = λ t r T may at due all. All-push IsFramedByHead (requests_of T) r all (taken_framed limits rules r T at due);
}
  where
    other_requests : (t : ℕ) (m : Mark) (T : Trace) → brings m ≡ false → requests_of ((t, m) ∷ T) ≡ requests_of T
    other_requests t (began r) T e = cc
    other_requests t m T e = refl

pub requests_are_framed : RequestsAreFramed
requests_are_framed limits rules entries =
    trace_keeps (λ T. All IsFramedByHead (requests_of T)) limits rules
    (kept_by_input (λ T. All IsFramedByHead (requests_of T)) limits rules (framed_by_input limits rules)) (All-nil IsFramedByHead) entries
