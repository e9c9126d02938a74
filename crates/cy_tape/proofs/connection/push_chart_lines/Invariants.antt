use Rattle.std.proofs.Common.{◌≡◌, ◌++◌, drop}
use Rattle.cy_tape.specs.ChartTexts.{charts_text}
use Rattle.cy_tape.proofs.connection.push_chart_lines.Given as goal

abbrev pub invariant-loop-chart : goal.invariant-loop-chart
invariant-loop-chart l = l.text.items ++ charts_text l.conn (drop l.chart-index l.charts) ≡ l.initial.text.items ++ charts_text l.conn l.charts
