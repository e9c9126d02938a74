-- What the loops of `connector_of` keep.
use Rattle.std.proofs.Common.{◌≡◌, take}
use Rattle.toml.specs.View.{table_view}
use Rattle.cy_config.specs.Printing.{connector_of, told}
use Rattle.cy_config.specs.Texts.{shown}
use Rattle.cy_config.proofs.printing.connector_of.Given as goal

abbrev pub invariant-loop-setting : goal.invariant-loop-setting
invariant-loop-setting l = table_view l.table ≡ connector_of (shown l.settings) (take l.setting-index told)
