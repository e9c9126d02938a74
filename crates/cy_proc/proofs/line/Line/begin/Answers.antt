-- What is left to show of `Line::begin`.
use Rattle.std.proofs.Common.{◌≤◌, ℕ, ◌++◌, Bool, true, false, List, length, sym, ap, subst, arith, ◌∙◌, length-drop, length-append}
use Rattle.cy_event.specs.Answers.{continue_text}
use Rattle.cy_in.specs.Intakes.{Intake, after_scan}
use Rattle.cy_rings.specs.Rings.{Rings}
use Rattle.cy_model.specs.Outputs.{begin_text}
use Rattle.cy_proc.specs.LineBodies.{IsInRing}
use Rattle.cy_proc.specs.Lines.{LineParts}
use Rattle.cy_proc.proofs.InRing.{in_ring_begin}
use Rattle.cy_proc.proofs.line.Line.begin.Goals as goal

begin_room : (go_on : Bool) → length (begin_text go_on) ≤ length continue_text
begin_room true = omega arith
begin_room false = omega arith

pub invariant_of-self : goal.invariant_of-self
invariant_of-self c =
    let v = c.self.invariant in
    let l = c.self.inside in
    let waits = ap (λ (p : LineParts). length p.unread) c.self.view_is in
    let unsent = ap (λ (p : LineParts). length p.unsent) c.self.view_is in
    let taken = c.put_begin.ensures.input ∙ ap (λ (k : Rings). k.input) c.take_in.ensures in
    let input = ap (λ (k : Rings). k.input) c.scan-found.ensures.kit ∙ taken in
    let sent = c.put_begin.ensures.output ∙ ap (λ (k : Rings). k.output ++ begin_text c.args.go_on) c.take_in.ensures in
    let output = ap length (ap (λ (k : Rings). k.output) c.scan-found.ensures.kit ∙ sent) ∙ length-append l.kit.output (begin_text c.args.go_on) in
    let body = c.scan-found.ensures.after ∙ (λ i. after_scan c.scanning-limits.result.max_trailer (c.start.ensures i) (taken i)) in
    let within : c.args.size ≤ length l.kit.input = omega (arith, c.requires.within, waits) in
    let left = length-drop c.args.size l.kit.input in
    let fewer = ap length input in (
      omega (arith, v.0, c.requires.some, within, left, fewer),
      v.1,
      λ o. omega (arith, c.requires.room, unsent, output, begin_room c.args.go_on),
      v.3,
      subst (λ (b : List ℕ). IsInRing c.scan-found.new.self b l.came) (sym input) (in_ring_begin c.scanning-limits.result.max_trailer c.args.size c.args.framing _ _ _ within (omega (arith, v.0)) body),
      λ o. ap (λ (i : Intake). i.swallowed_from) body,
      sym c.scanning-limits.ensures ∙ sym (ap (λ (i : Intake). i.max_trailer) body),
    )
