-- What is left to show of `push_account`.
use Rattle.std.proofs.Common.{List, ℕ, ◌++◌, map, ap, ◌∙◌}
use Rattle.std.proofs.lemmas.Result.{on_ok_weaker}
use Rattle.cy_tape.specs.declared.chart.Chart.{Chart}
use Rattle.cy_world.specs.Reporting.{items_of}
use Rattle.cy_world.proofs.Charts.{account_told}
use Rattle.cy_world.proofs.world.report.push_account.Goals as goal

pub returns : goal.returns
returns c =
    let account = c.args.account.now in
    let charts = c.deref-2.result.now in
    on_ok_weaker c.push_lines.result
    (λ appended T tells.
    appended
    ∙ ap (λ (u : List ℕ). c.args.text.now.items ++ u)
    (account_told c.args.number T account c.as_slice-written.result.now (map items_of charts) tells c.as_slice-written.ensures
    (ap (λ (cs : List Chart). map items_of cs) c.deref-2.ensures.value ∙ c.in_ok-charts.ensures.items ∙ c.deref.ensures.value)))
    c.push_lines.ensures
