-- Charts that are numbered in order are those of the report.
use Rattle.std.proofs.Common.{◌≡◌, ℕ, ◌+◌, List, [], ◌∷◌, ◌++◌, map, Option, refl, ap, ◌∙◌, arith}
use Rattle.std.proofs.lemmas.Grind.{common_steps}
use Rattle.cy_event.specs.declared.steps.CloseCause.{CloseCause}
use Rattle.cy_event.specs.declared.table.ChartItem.{ChartItem}
use Rattle.cy_model.specs.Reports.{chart_line, chart_lines, connection_text}
use Rattle.cy_tape.specs.ChartTexts.{charts_text, conn_text}
use Rattle.cy_tape.specs.Laws.{AreNumberedFrom}
use Rattle.cy_tape.specs.declared.chart.Chart.{Chart}

-- the lines of charts that are numbered from here on
numbered_lines : (conn request : ℕ) (charts : List Chart) → AreNumberedFrom request charts →
    charts_text conn charts ≡ chart_lines conn request (map (λ chart. chart.items) charts)
numbered_lines conn request [] h = refl
numbered_lines conn request (chart ∷ rest) h =
    ap (λ (n : ℕ). chart_line conn n chart.items ++ charts_text conn rest) h.0
    ∙ ap (λ (lines : List ℕ). chart_line conn request chart.items ++ lines) (numbered_lines conn (request + 1) rest h.1)

-- The lines of charts stand behind those of the connection.
lines_behind : (conn : ℕ) (why : Option CloseCause) (took : ℕ) (written : List ℕ) (charts : List (List ChartItem)) →
    connection_text conn why took written [] ++ chart_lines conn 1 charts ≡ connection_text conn why took written charts
unfolding connection_text
lines_behind conn why took written charts = grind (arith, common_steps)

pub numbered_charts_are_the_report : (conn : ℕ) (why : Option CloseCause) (took : ℕ) (written : List ℕ) (charts : List Chart) → AreNumberedFrom 1 charts →
    conn_text conn why took written charts ≡ connection_text conn why took written (map (λ chart. chart.items) charts)
unfolding conn_text
numbered_charts_are_the_report conn why took written charts h =
    ap (λ (lines : List ℕ). connection_text conn why took written [] ++ lines) (numbered_lines conn 1 charts h)
    ∙ lines_behind conn why took written (map (λ chart. chart.items) charts)
