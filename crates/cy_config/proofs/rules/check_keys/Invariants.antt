-- What the loops of `check_keys` keep.
use Rattle.std.proofs.Common.{◌≡◌, map, string_bytes}
use Rattle.std.specs.List.{filter_map}
use Rattle.toml.specs.View.{table_view}
use Rattle.cy_config.specs.Members.{keys}
use Rattle.cy_config.specs.Meaning.{unknown_in_rule}
use Rattle.cy_config.proofs.rules.check_keys.Given as goal

abbrev pub invariant-loop-key : goal.invariant-loop-key
invariant-loop-key l = filter_map (unknown_in_rule l.number) (keys (table_view l.table)) ≡ filter_map (unknown_in_rule l.number) (map string_bytes l.key-iterator)
