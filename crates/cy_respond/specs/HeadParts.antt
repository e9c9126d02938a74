-- A head in parts: what stands before the fields that frame the content, and what stands behind them.
use Rattle.std.specs.Prelude.{ℕ, List, ◌++◌, codes, decimal}
use Rattle.std.specs.List.{flat_map}
use Rattle.cy_event.specs.Answers.{Answer, Connection, connection_line, crlf, field_line}
use Rattle.cy_event.specs.Dates.{date_at}

abbrev pub start_lines : Answer → List ℕ
start_lines a = codes "HTTP/1.1 " ++ decimal a.status ++ codes " \r\n" ++ flat_map field_line a.fields

abbrev pub end_lines : ℕ → Connection → List ℕ
end_lines at connection = codes "Date: " ++ date_at at ++ crlf ++ connection_line connection ++ crlf
