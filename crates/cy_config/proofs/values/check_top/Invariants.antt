-- What the loops of `check_top` keep.
use Rattle.std.proofs.Common.{◌≡◌, map, string_bytes}
use Rattle.std.specs.List.{filter_map}
use Rattle.toml.specs.View.{table_view}
use Rattle.cy_config.specs.Members.{keys}
use Rattle.cy_config.specs.Meaning.{unknown_at_top}
use Rattle.cy_config.proofs.values.check_top.Given as goal

abbrev pub invariant-loop-key : goal.invariant-loop-key
invariant-loop-key l = filter_map unknown_at_top (keys (table_view l.top)) ≡ filter_map unknown_at_top (map string_bytes l.key-iterator)
