-- Each request that was taken up is what the verdict on its head says.
use Rattle.std.proofs.Common.{◌≡◌, ⊎_elim, ℕ, ◌+◌, false, List, [], ◌∷◌, ◌++◌, length, inl, inr, refl, sym, ap, ◌∙◌, subst, arith, length-append}
use Rattle.cy_event.specs.declared.limits.Limits.{Limits}
use Rattle.cy_event.specs.Heads.{Front}
use Rattle.cy_map.specs.declared.rule.Rule.{Rule}
use Rattle.cy_model.specs.Folds.{begun_count, requests_of}
use Rattle.cy_model.specs.Inputs.{consumed}
use Rattle.cy_model.specs.Laws.{AreJudged, IsJudged, RequestsAreJudged}
use Rattle.cy_model.specs.Marks.{Mark, began, TakenUp, Trace}
use Rattle.cy_model.specs.Settling.{due_by_front, due_by_verdict, due_of}
use Rattle.cy_model.specs.Verdicts.{verdict_of}
use Rattle.cy_model.proofs.InputInduction.{KeptByInput, brings, kept_by_input}
use Rattle.cy_model.proofs.TraceInduction.{IsTakenAt, trace_keeps}

-- the requests are judged, and as many as were begun
record Judged (limits : Limits) (rules : List Rule) (T : Trace) : Type 0 where
  all : AreJudged limits rules 1 (requests_of T)
  count : begun_count T ≡ length (requests_of T)

-- one more request behind those before it
judged_more : (limits : Limits) (rules : List Rule) (number last : ℕ) (rs : List TakenUp) (r : TakenUp) → AreJudged limits rules number rs
    → last ≡ number + length rs → IsJudged limits rules last r → AreJudged limits rules number (rs ++ r ∷ [])
judged_more limits rules number last [] r all at one = let here : last ≡ number = omega (arith, at) in (subst (λ (n : ℕ). IsJudged limits rules n r) here one, tt)
judged_more limits rules number last (q ∷ rs) r all at one = (all.0, judged_more limits rules (number + 1) last rs r all.1 (omega (arith, at)) one)

-- what is due of a trace is what the head at its place leads to
pub due_at_place : (limits : Limits) (rules : List Rule) (r : TakenUp) (T : Trace) → IsTakenAt limits r T
    → due_of limits rules T ≡ due_by_verdict limits r.place (begun_count T + 1) r.size r.head (verdict_of rules r.head)
due_at_place limits rules r T at =
    ap (λ (f : Front). due_by_front limits rules (consumed T) (begun_count T + 1) f) at.front
    ∙ ap (λ (n : ℕ). due_by_verdict limits n (begun_count T + 1) r.size r.head (verdict_of rules r.head)) (sym at.place)

begun_judged : (limits : Limits) (rules : List Rule) (t : ℕ) (r : TakenUp) (T : Trace) → IsJudged limits rules (begun_count T + 1) r → Judged limits rules T
    → Judged limits rules ((t, began r) ∷ T)
begun_judged limits rules t r T one j = record {
  all = judged_more limits rules 1 (begun_count T + 1) (requests_of T) r j.all (omega (arith, j.count)) one;
  count = ap (λ (n : ℕ). n + 1) j.count ∙ sym (length-append (requests_of T) (r ∷ []));
}

judged_by_input : (limits : Limits) (rules : List Rule) → KeptByInput limits rules (Judged limits rules)
judged_by_input limits rules = record {
  others = λ t m T brought j. record {
    all = subst (AreJudged limits rules 1) (sym (other_requests t m T brought)) j.all;
    count = other_count t m T brought ∙ j.count ∙ sym (ap length (other_requests t m T brought));
  };
  comes = λ t b T taken j. record { all = j.all; count = j.count };
  begins = λ t r T may at due j.
      let here = sym (due_at_place limits rules r T at) in
      begun_judged limits rules t r T (⊎_elim (λ d. inl (here ∙ d)) (λ d. inr (here ∙ d)) due) j;
}
  where
    other_requests : (t : ℕ) (m : Mark) (T : Trace) → brings m ≡ false → requests_of ((t, m) ∷ T) ≡ requests_of T
    other_requests t (began r) T e = cc
    other_requests t m T e = refl

    other_count : (t : ℕ) (m : Mark) (T : Trace) → brings m ≡ false → begun_count ((t, m) ∷ T) ≡ begun_count T
    other_count t (began r) T e = cc
    other_count t m T e = refl

pub requests_are_judged : RequestsAreJudged
requests_are_judged limits rules entries =
    (trace_keeps (Judged limits rules) limits rules (kept_by_input (Judged limits rules) limits rules (judged_by_input limits rules)) (record { all = tt; count = refl }) entries).all
