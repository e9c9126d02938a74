-- What the loops of `rules_of` keep.
use Rattle.std.proofs.Common.{◌≡◌, map, take}
use Rattle.toml.specs.View.{view}
use Rattle.cy_config.specs.Printing.{rule_table}
use Rattle.cy_config.proofs.printing.rules_of.Given as goal

abbrev pub invariant-loop-rule : goal.invariant-loop-rule
invariant-loop-rule l = map view l.values.items ≡ map rule_table (take l.rule-index l.rules)
