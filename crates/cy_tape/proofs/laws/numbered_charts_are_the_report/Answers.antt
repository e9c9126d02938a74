use Rattle.cy_tape.proofs.NumberedCharts.{numbered_charts_are_the_report}
use Rattle.cy_tape.proofs.laws.numbered_charts_are_the_report.Goals as goal

pub returns : goal.returns
returns c = numbered_charts_are_the_report
