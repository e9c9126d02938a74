-- What is left to show of `push_lines`.
use Rattle.std.proofs.Common.{List, ℕ, ◌++◌, ap, ◌∙◌}
use Rattle.cy_tape.proofs.NumberedCharts.{numbered_charts_are_the_report}
use Rattle.cy_tape.specs.ChartTexts.{conn_text}
use Rattle.cy_world.proofs.world.report.push_lines.Goals as goal

pub returns : goal.returns
returns c =
    let text = c.args.text.now.items in
    let lines = conn_text c.args.number c.args.cause c.args.took c.args.written.now c.args.charts.now in
    c.in_ok-extend_from_slice.ensures.items
    ∙ ap (λ (u : List ℕ). text ++ u) (
    c.as_slice.ensures
    ∙ c.in_ok-print_conn.ensures.appended
    ∙ ap (λ (u : List ℕ). u ++ lines) (c.of-lines.ensures ∙ c.new.ensures.items)
    ∙ numbered_charts_are_the_report c.args.number c.args.cause c.args.took c.args.written.now c.args.charts.now c.requires.numbered
    )
