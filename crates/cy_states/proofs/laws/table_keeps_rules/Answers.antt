-- The law `table_keeps_rules`, by what is proved of it elsewhere.
use Rattle.cy_states.proofs.Cells.{each_cell}
use Rattle.cy_states.proofs.laws.table_keeps_rules.Goals as goal

pub returns : goal.returns
returns c = each_cell
