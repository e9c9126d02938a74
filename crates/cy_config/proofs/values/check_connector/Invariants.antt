-- What the loops of `check_connector` keep.
use Rattle.std.proofs.Common.{◌≡◌}
use Rattle.std.specs.List.{filter_map}
use Rattle.toml.specs.View.{table_view, members_view}
use Rattle.cy_config.specs.Members.{entries}
use Rattle.cy_config.specs.Meaning.{refused_key}
use Rattle.cy_config.proofs.values.check_connector.Given as goal

abbrev pub invariant-loop-key : goal.invariant-loop-key
invariant-loop-key l = filter_map refused_key (entries (table_view l.connector)) ≡ filter_map refused_key (entries (members_view l.key-iterator))
