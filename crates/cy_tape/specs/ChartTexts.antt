-- The lines of a connection whose charts say which request each belongs to.
use Rattle.std.specs.Prelude.{ℕ, List, [], ◌++◌, flat_map, Option}
use Rattle.cy_event.specs.declared.steps.CloseCause.{CloseCause}
use Rattle.cy_model.specs.Reports.{chart_line, connection_text}
use Rattle.cy_tape.specs.declared.chart.Chart.{Chart}

-- a line for each chart, by the number of its own request
abbrev pub charts_text : ℕ → List Chart → List ℕ
charts_text conn charts = flat_map (λ chart. chart_line conn chart.request chart.items) charts

-- the lines of a connection without charts, and then these charts
unfoldable pub conn_text : ℕ → Option CloseCause → ℕ → List ℕ → List Chart → List ℕ
conn_text conn why took written charts = connection_text conn why took written [] ++ charts_text conn charts
