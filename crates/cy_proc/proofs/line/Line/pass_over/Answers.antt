-- What is left to show of `Line::pass_over`.
use Rattle.std.proofs.Common.{◌≡◌, ◌≤◌, ℕ, true, List, length, sym, ap, subst, arith, ◌∙◌, length-drop}
use Rattle.cy_in.specs.Intakes.{Intake, taken_by}
use Rattle.cy_rings.specs.Rings.{Rings}
use Rattle.cy_proc.specs.Lines.{LineParts, open_bound}
use Rattle.cy_proc.proofs.InRing.{in_ring_swallow}
use Rattle.cy_proc.proofs.Lines.{both}
use Rattle.cy_proc.proofs.line.Line.pass_over.Goals as goal

pub invariant_of-self : goal.invariant_of-self
invariant_of-self c =
    let v = c.self.invariant in
    let l = c.self.inside in
    let body = c.swallow-found.ensures.after in
    let input = ap (λ (k : Rings). k.input) c.swallow-found.ensures.kit in
    let output = ap (λ (k : Rings). k.output) c.swallow-found.ensures.kit in
    let fewer = ap length input in
    let left = length-drop (taken_by l.body c.swallow-found.new.self) l.kit.input in (
      omega (arith, v.0, fewer, left),
      v.1,
      subst (λ (o : List ℕ). l.is_open ≡ true → length o ≤ open_bound) (sym output) v.2,
      v.3,
      in_ring_swallow _ _ _ _ _ _ body input v.4,
      λ o. absurd (both l.is_open o (ap (λ (p : LineParts). p.is_open) c.self.view_is ∙ c.requires)),
      sym c.scanning-limits.ensures ∙ sym (ap (λ (i : Intake). i.max_trailer) body),
    )
