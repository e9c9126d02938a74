-- What is left to show of `run`.
use Rattle.std.proofs.Common.{◌≡◌, ◌++◌, ◌∷◌, ◌+◌, ℕ, List, reverse, take, sym, ap, ◌∙◌, subst}
use Rattle.cy_event.specs.declared.steps.Step.{Step}
use Rattle.cy_model.specs.Connections.{replies}
use Rattle.cy_model.specs.Reports.{reply_line, reply_lines}
use Rattle.cy_world.specs.Told.{replied}
use Rattle.cy_world.specs.Worlds.{StandsFor}
use Rattle.cy_world.specs.declared.terms.Terms.{Terms}
use Rattle.cy_world.proofs.Reporting.{can_take_next, length_so_far, reply_lines_more, report_is, reverse-take_more}
use Rattle.cy_world.proofs.world.report.run.Goals as goal

pub step-requires : goal.step-requires
step-requires c =
    can_take_next c.args.steps.now c.loop-index.index c.index-steps-index.result c.loop-index.world c.requires.valid c.requires.clock
    c.loop-index-test.true c.index-steps-index.is c.loop-index.invariant.stands

pub loop-index-preserved : goal.loop-index-preserved
loop-index-preserved c =
    let steps = c.args.steps.now in
    let i = c.loop-index.index in
    let s = c.index-steps-index.result in
    let before = c.loop-index.invariant in
    let limits = c.loop-index.world.terms.limits in
    let rules = c.loop-index.world.terms.rules in
    let w = reverse (take i steps) in
    let takes = c.in-Ok.ensures.takes w before.stands in
    let more : reverse (take (i + 1) steps) ≡ s ∷ w = reverse-take_more steps i s c.loop-index-test.true c.index-steps-index.is in
    record {
      stands = subst (λ (u : List Step). StandsFor u c.step.new.self) (sym more) takes.stands;
      limits = ap (λ (q : Terms). q.limits) c.step.ensures.terms ∙ before.limits;
      rules = ap (λ (q : Terms). q.rules) c.step.ensures.terms ∙ before.rules;
      text = c.in_ok-push_reply_line.ensures
          ∙ ap (λ (u : List ℕ). u ++ reply_line (i + 1) (replied c.in-Ok.answer)) before.text
          ∙ reply_lines_more limits rules s w i (replied c.in-Ok.answer) (length_so_far steps i c.loop-index-test.true) takes.reply
          ∙ ap (λ (u : List Step). reply_lines 1 (replies limits rules u)) (sym more)
          ∙ ap (λ (q : Terms). reply_lines 1 (replies q.limits q.rules (reverse (take (i + 1) steps)))) (sym c.step.ensures.terms);
    }

pub returns-clause-report : goal.returns-clause-report
returns-clause-report c =
    let steps = c.args.steps.now in
    let i = c.loop-index.index in
    let before = c.loop-index.invariant in
    report_is steps i c.loop-index.world (record { limits = c.args.limits.now; rules = c.args.rules.now }) c.loop-index.text.items c.of.result c.loop-index-test.false
    (λ k. record { limits = before.limits k; rules = before.rules k }) before.text
    (c.of.ensures ∙ c.in_ok-push_connections.ensures (reverse (take i steps)) before.stands)
