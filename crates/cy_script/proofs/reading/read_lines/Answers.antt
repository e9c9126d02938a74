-- What is left to show of `read_lines`.
use Rattle.cy_script.proofs.StatementLines.{statement_is, is_bounded}
use Rattle.cy_script.proofs.reading.read_lines.Goals as goal

pub take-requires : goal.take-requires
take-requires c =
    let line = c.in-Some.line.now in
    let statement = c.in_ok-statement.statement in
    is_bounded line statement (statement_is line statement c.in_ok-statement.ensures)
