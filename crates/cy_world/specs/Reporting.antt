-- What a connector reports of its connections.
use Rattle.std.specs.Prelude.{ℕ, List, [], flat_map, unwrap_or}
use Rattle.cy_event.specs.declared.steps.Step.{Step}
use Rattle.cy_event.specs.declared.table.ChartItem.{ChartItem}
use Rattle.cy_model.specs.Connections.{connections}
use Rattle.cy_model.specs.Reports.{by_number, history_text, trace_text}
use Rattle.cy_tape.specs.declared.chart.Chart.{Chart}
use Rattle.cy_world.specs.Told.{told_of}
use Rattle.cy_world.specs.Worlds.{WorldParts}

-- the calls of a request, without its number
abbrev pub items_of : Chart → List ChartItem
items_of c = c.items

-- the lines of the connection of this number: none where it was never admitted
abbrev pub text_of : WorldParts → List Step → ℕ → List ℕ
text_of p w c = unwrap_or (told_of (trace_text c) p w c) []

-- the lines of all connections, by rising number
abbrev pub connections_text : WorldParts → List Step → List ℕ
connections_text p w =
    flat_map (history_text p.terms.limits p.terms.rules) (by_number (connections p.terms.limits p.terms.rules w))
