-- The members of the text that settings are written as.
use Rattle.std.specs.Prelude.{◌≡◌, ℕ, ℤ, pos, true, List, [], ◌∷◌, ◌++◌, map, fold}
use Rattle.std.specs.Cmp.Lexicographic.{slice_cmp}
use Rattle.std.specs.List.{list_all}
use Rattle.std.specs.Ordering.{match_ordering, nat_cmp}
use Rattle.toml.specs.Data.{Data, string, integer, boolean, array, table, Members, no_members, member}
use Rattle.toml.specs.View.{items_of}
use Rattle.cy_map.specs.declared.rule.Rule.{Rule}
use Rattle.cy_settings.specs.declared.setting.Setting.{Setting}
use Rattle.cy_settings.specs.declared.setting.Setting.TheVariants.{Limit as OfLimit, MinSpareThreads, MaxThreads, Port}
use Rattle.cy_settings.specs.Limits.{limits, limit_in}
use Rattle.cy_settings.specs.Rules.{AreRules, has_part, parts_of}
use Rattle.cy_settings.specs.Settings.{AreInRange, default_of, name_of}
use Rattle.cy_config.specs.Kept.{AreThreads}
use Rattle.cy_config.specs.Meaning.{Values}
use Rattle.cy_config.specs.Members.{async, connector, part, pattern, rule}

-- settings that may be
pub record AreSettings (values : Values) : Type 0 where
  pub in_range : AreInRange values.limits
  pub threads : AreThreads values.core values.max
  pub taken : AreRules values.rules
  pub known_parts : list_all has_part values.rules ≡ true
  pub parts : values.limits.parts ≡ parts_of values.rules

-- the settings, with the port where nobody sets it
abbrev pub at_default_port : Values → Values
at_default_port values = record values { port = default_of Port }

-- the members with a value at a key, at its place in their order
abbrev pub insert : List ℕ → Data → Members → Members
insert key value no_members = member key value no_members
insert key value (member other first rest) =
    match_ordering (slice_cmp nat_cmp key other)
    (member key value (member other first rest))
    (member other value rest)
    (member other first (insert key value rest))

-- the value of a setting
abbrev pub value_in : Values → Setting → ℤ
value_in values (OfLimit limit) = limit_in values.limits limit
value_in values MinSpareThreads = pos values.core
value_in values MaxThreads = pos values.max
value_in values Port = pos values.port

-- the settings that are told: all but the port
abbrev pub told : List Setting
told = map OfLimit limits ++ MinSpareThreads ∷ MaxThreads ∷ []

abbrev pub with_value : Values → Members → Setting → Members
with_value values ms setting = insert (name_of setting) (integer (value_in values setting)) ms

-- the table `connector`, with each of these settings
abbrev pub connector_of : Values → List Setting → Members
connector_of values settings = fold (with_value values) no_members settings

-- the table of a rule
abbrev pub rule_table : Rule → Data
rule_table rule = table (
    insert pattern (string rule.pattern)
    (insert part (integer (pos rule.part))
    (insert async (boolean rule.can_async) no_members)))

-- the whole: the connector with these settings, and the list of rules
abbrev pub members_with : List Setting → Values → Members
members_with settings values =
    insert rule (array (items_of (map rule_table values.rules)))
    (insert connector (table (connector_of values settings)) no_members)

unfoldable pub printed : Values → Members
printed values = members_with told values
