-- What the loops of `read_rules` keep.
use Rattle.std.proofs.Common.{◌≡◌, [], true, length, drop, map, IsUtf8}
use Rattle.std.specs.Prelude.{All}
use Rattle.std.specs.List.{list_all}
use Rattle.toml.specs.View.{view}
use Rattle.cy_settings.specs.Rules.{AreRules, has_part}
use Rattle.cy_config.specs.Meaning.{read_rules}
use Rattle.cy_config.proofs.RulesRead.{HoldsPatterns}
use Rattle.cy_config.proofs.rules.read_rules.Given as goal

abbrev pub invariant-loop-value : goal.invariant-loop-value
invariant-loop-value l = record {
  read : read_rules [] (map view l.values) ≡ read_rules l.rules.items (map view (drop l.value-index l.values));
  count : length l.rules.items ≡ l.value-index;
  taken : AreRules l.rules.items;
  known_parts : list_all has_part l.rules.items ≡ true;
  utf8 : All (λ rule. IsUtf8 rule.pattern) l.rules.items;
  patterns : HoldsPatterns l.patterns.keys l.rules.items;
}
