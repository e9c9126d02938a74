-- What is left to show of `Line::read`.
use Rattle.std.proofs.Common.{◌≡◌, ◌≤◌, ℕ, true, List, length, sym, ap, subst, arith, ◌∙◌, length-drop}
use Rattle.cy_in.specs.Intakes.{Intake, taken_by}
use Rattle.cy_rings.specs.Rings.{Rings}
use Rattle.cy_proc.specs.Lines.{open_bound}
use Rattle.cy_proc.proofs.InRing.{in_ring_read, read_moves}
use Rattle.cy_proc.proofs.line.Line.read.Goals as goal

pub invariant_of-self : goal.invariant_of-self
invariant_of-self c =
    let v = c.self.invariant in
    let l = c.self.inside in
    let body = c.read.ensures.after in
    let moves = read_moves (length c.args.into.now) l.body l.kit.input in
    let input = ap (λ (k : Rings). k.input) c.read.ensures.kit in
    let output = ap (λ (k : Rings). k.output) c.read.ensures.kit in
    let fewer = ap length input in
    let left = length-drop (taken_by l.body c.read.new.self) l.kit.input in (
      omega (arith, v.0, fewer, left),
      v.1,
      subst (λ (o : List ℕ). l.is_open ≡ true → length o ≤ open_bound) (sym output) v.2,
      v.3,
      in_ring_read _ _ _ _ _ _ body input v.4,
      λ o. ap (λ (i : Intake). i.swallowed_from) body ∙ moves.swallowed_from ∙ v.5 o,
      v.6 ∙ sym (ap (λ (i : Intake). i.max_trailer) body ∙ moves.max_trailer),
    )
