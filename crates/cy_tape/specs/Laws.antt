-- What holds of the texts, stated for the laws.
use Rattle.std.specs.Prelude.{◌≡◌, ℕ, ◌+◌, ⊤, List, [], ◌∷◌, map, Option}
use Rattle.cy_event.specs.declared.steps.CloseCause.{CloseCause}
use Rattle.cy_model.specs.Reports.{connection_text}
use Rattle.cy_tape.specs.ChartTexts.{conn_text}
use Rattle.cy_tape.specs.declared.chart.Chart.{Chart}

-- the charts are those of requests that are numbered from here on
abbrev pub AreNumberedFrom : ℕ → List Chart → Type 0
AreNumberedFrom request [] = ⊤
AreNumberedFrom request (chart ∷ rest) = (chart.request ≡ request) × AreNumberedFrom (request + 1) rest

-- Where the charts are numbered 1, 2 and so on, the lines are those of the report.
abbrev pub NumberedChartsAreTheReport : Type 0
NumberedChartsAreTheReport =
    (conn : ℕ) (why : Option CloseCause) (took : ℕ) (written : List ℕ) (charts : List Chart) → AreNumberedFrom 1 charts →
    conn_text conn why took written charts ≡ connection_text conn why took written (map (λ chart. chart.items) charts)
