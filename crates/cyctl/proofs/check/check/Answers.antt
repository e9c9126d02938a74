-- A refusal is told, and what is in the form is not refused.
use Rattle.std.proofs.Common.{List, ℕ, inl, inr, refl, subst, arith}
use Rattle.cyctl.specs.Check.{IsRefused}
use Rattle.cyctl.specs.Tool.{Tells}
use Rattle.cyctl.proofs.Checks.{check_completes}
use Rattle.cyctl.proofs.check.check.Goals as goal

pub returns-in-Ok-Refused : goal.returns-in-Ok-Refused
returns-in-Ok-Refused g c =
    let checked = rw c.in-Ok-Refused.field-0-is at c.in-Ok-Refused.ensures.checked in
    let refused : IsRefused (g.S.Source.left c.args.source.now) (g.S.Source.left c.check_source.new.source) (g.K.Sink.held c.args.sink.now) (g.K.Sink.held c.tell.new.sink)
    (g.K.Sink.faults c.args.sink.now) (g.K.Sink.faults c.tell.new.sink) = record {
      input = checked.0;
      text = c.in-Ok-Refused.text.items;
      read = checked.1;
      tells = checked.2;
      message =
          subst (λ (text : List ℕ). Tells (g.K.Sink.held c.args.sink.now) (g.K.Sink.held c.tell.new.sink) (g.K.Sink.faults c.args.sink.now) (g.K.Sink.faults c.tell.new.sink) text)
          c.deref-in-Ok-Refused.ensures.value c.tell.ensures.told;
    } in
    record {
      settings = λ h. absurd (omega (arith, h));
      refused = λ h. refused;
      source = λ h. absurd (omega (arith, h));
      sink = λ h. absurd (omega (arith, h));
      front = λ h. absurd (omega (arith, h));
      oversized = λ h. absurd (omega (arith, h));
      within_size = λ h. c.in-Ok-Refused.ensures.not_too_large (λ e. absurd cc);
      source_told = λ h. absurd (omega (arith, h));
      memory_told = λ h. absurd (omega (arith, h));
      size_told = λ h. absurd (omega (arith, h));
      only = inr (inl refl);
      complete =
          check_completes _ _ _ _ _ _ _ _ 3 (inr (inl refl)) (λ h. refused) (λ h. absurd (omega (arith, h))) (λ h. absurd (omega (arith, h))) (λ h. absurd (omega (arith, h)));
    }
