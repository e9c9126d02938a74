-- What is left to show of `Line::scan`.
use Rattle.std.proofs.Common.{◌≡◌, ◌≤◌, ◌+◌, true, length, sym, ap, subst, ◌∙◌}
use Rattle.cy_in.specs.Intakes.{Intake}
use Rattle.cy_rings.specs.Rings.{Rings}
use Rattle.cy_proc.specs.LineBodies.{IsInRing}
use Rattle.cy_proc.specs.Lines.{open_bound}
use Rattle.cy_proc.proofs.InRing.{in_ring_scan}
use Rattle.cy_proc.proofs.line.Line.scan.Goals as goal

pub invariant_of-self : goal.invariant_of-self
invariant_of-self c =
    let v = c.self.invariant in
    let body = c.scan-found.ensures.after in
    let kit = sym c.scan-found.ensures.kit in
    let l = c.self.inside in
    let ring = in_ring_scan _ _ _ _ _ body v.4 in (
      subst (λ (k : Rings). l.begun + length k.input ≤ l.came) kit v.0,
      v.1,
      subst (λ (k : Rings). l.is_open ≡ true → length k.output ≤ open_bound) kit v.2,
      v.3,
      subst (λ (k : Rings). IsInRing c.scan-found.new.self k.input l.came) kit ring,
      λ o. ap (λ (i : Intake). i.swallowed_from) body ∙ v.5 o,
      sym c.scanning-limits.ensures ∙ sym (ap (λ (i : Intake). i.max_trailer) body),
    )
