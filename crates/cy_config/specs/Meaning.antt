-- What a text of settings means: settings, or why it is refused.
use Rattle.std.specs.Prelude.{◌≡◌, ◌⊎◌, ℕ, ℤ, pos, Bool, true, false, ◌&&◌, nat_le, if◌then◌else◌, List, [], ◌∷◌, ◌++◌, length, map, codes, IsUtf8, Option, Some, None, Result, Ok, Err, unwrap_or}
use Rattle.std.specs.Fmt.{decimal}
use Rattle.std.specs.List.{filter_map, list_all}
use Rattle.std.specs.Option.{option_and_then}
use Rattle.toml.specs.Data.{Data, integer, array, Members, no_members, get_member, as_str, as_integer, as_bool}
use Rattle.toml.specs.Parse.{parse_document}
use Rattle.cy_map.specs.declared.rule.Rule.{Rule}
use Rattle.cy_map.specs.declared.mapper.TheConstants.{MAX_RULES}
use Rattle.cy_map.specs.Patterns.{is_pattern}
use Rattle.cy_settings.specs.declared.limits.Limits.{Limits}
use Rattle.cy_settings.specs.declared.setting.Setting.{Setting}
use Rattle.cy_settings.specs.declared.setting.Setting.TheVariants.{Limit as OfLimit, MinSpareThreads, MaxThreads, Port}
use Rattle.cy_settings.specs.Limits.{limits_of, number}
use Rattle.cy_settings.specs.Rules.{has_pattern, most_part, parts_of}
use Rattle.cy_settings.specs.Settings.{can_be, default_of, name_of, setting_named}
use Rattle.cy_config.specs.declared.fault.SetFault.{SetFault}
use Rattle.cy_config.specs.declared.fault.SetFault.TheVariants.{NotToml, UnknownKey, BadSetting}
use Rattle.cy_config.specs.Members.{entries, keys, elements, members_in, is_table, is_text, is_flag, value_word, connector, rule, pattern, part, async, is_top_key, is_rule_key, in_connector, in_rule}

-- settings, as a plain record
pub record Values : Type 0 where
  pub limits : Limits
  pub port : ℕ
  pub core : ℕ
  pub max : ℕ
  pub rules : List Rule

-- ---- refusals

-- the first of the refusals, or what else is answered where there is none
abbrev pub unless : {A : Type 0} → List SetFault → Result A SetFault → Result A SetFault
unless [] answer = answer
unless (refusal ∷ more) answer = Err refusal

-- a value that isn't taken, or one that is needed and absent
abbrev pub refusals_of : List ℕ → (Data → Bool) → Bool → Option Data → List SetFault
refusals_of name takes is_needed None = if is_needed then BadSetting name (codes "absent") ∷ [] else []
refusals_of name takes is_needed (Some value) = if takes value then [] else BadSetting name (value_word value) ∷ []

-- a key at the top that is neither `connector` nor `rule`
abbrev pub unknown_at_top : List ℕ → Option SetFault
unknown_at_top key = if is_top_key key then None else Some (UnknownKey key)

-- ---- the connector

-- the members of a table that may be absent
abbrev pub members_found : Option Data → Members
members_found None = no_members
members_found (Some value) = members_in value

-- a whole number that the setting may have
abbrev pub takes : Setting → Data → Bool
takes setting (integer value) = can_be setting value
takes setting _ = false

-- a key that is no setting, or a value that the setting may not have
abbrev pub refused_as : List ℕ → Data → Option Setting → Option SetFault
refused_as key value None = Some (UnknownKey (in_connector key))
refused_as key value (Some setting) = if takes setting value then None else Some (BadSetting (in_connector key) (value_word value))

abbrev pub refused_key : List ℕ × Data → Option SetFault
refused_key entry = refused_as entry.0 entry.1 (setting_named entry.0)

-- the value of a setting: the one that the connector gives it, or its default
abbrev pub value_at : Members → Setting → ℤ
value_at ms setting = unwrap_or (option_and_then as_integer (get_member (name_of setting) ms)) (pos (default_of setting))

-- each setting may have the value that it has
abbrev pub AreTaken : Members → Type 0
AreTaken ms = (setting : Setting) → can_be setting (value_at ms setting) ≡ true

-- how many threads are kept, and how many there are at most
abbrev pub core_of : Members → ℕ
core_of ms = number (value_at ms MinSpareThreads)

abbrev pub max_of : Members → ℕ
max_of ms = number (value_at ms MaxThreads)

abbrev pub too_many_threads : Members → List SetFault
too_many_threads ms =
    if nat_le (core_of ms) (max_of ms) then []
    else BadSetting (in_connector (name_of MinSpareThreads)) (decimal (core_of ms)) ∷ []

-- ---- rules

-- a list of tables, of which there are not too many
abbrev pub is_rule_list : Data → Bool
is_rule_list (array items) = list_all is_table (elements items) && nat_le (length (elements items)) MAX_RULES
is_rule_list _ = false

-- the elements of a list that may be absent
abbrev pub elements_found : Option Data → List Data
elements_found (Some (array items)) = elements items
elements_found _ = []

abbrev pub is_part : Data → Bool
is_part (integer (pos number)) = nat_le number most_part
is_part _ = false

abbrev pub unknown_in_rule : ℕ → List ℕ → Option SetFault
unknown_in_rule number key = if is_rule_key key then None else Some (UnknownKey (in_rule number key))

-- what the rule of a table is: its pattern, its component, and whether that may process asynchronously
abbrev pub pattern_of : Members → List ℕ
pattern_of ms = unwrap_or (option_and_then as_str (get_member pattern ms)) []

abbrev pub part_of : Members → ℕ
part_of ms = number (unwrap_or (option_and_then as_integer (get_member part ms)) (pos 0))

abbrev pub can_async_of : Members → Bool
can_async_of ms = unwrap_or (option_and_then as_bool (get_member async ms)) false

abbrev pub rule_of : Members → Rule
rule_of ms = record { pattern = pattern_of ms; part = part_of ms; can_async = can_async_of ms }

-- a text that is no pattern
abbrev pub bad_pattern : ℕ → List ℕ → List SetFault
bad_pattern number text = if is_pattern text then [] else BadSetting (in_rule number pattern) (codes "pattern") ∷ []

-- a pattern that an earlier rule has
abbrev pub repeated_pattern : List Rule → List ℕ → List SetFault
repeated_pattern rules text = if has_pattern rules text then BadSetting (in_rule (length rules) pattern) (codes "twice") ∷ [] else []

-- the rule of a table of the list, by itself
abbrev pub read_rule : ℕ → Members → Result Rule SetFault
read_rule number ms =
    unless (filter_map (unknown_in_rule number) (keys ms))
    (unless (refusals_of (in_rule number pattern) is_text true (get_member pattern ms))
    (unless (refusals_of (in_rule number part) is_part true (get_member part ms))
    (unless (refusals_of (in_rule number async) is_flag false (get_member async ms))
    (unless (bad_pattern number (pattern_of ms)) (Ok (rule_of ms))))))

infixl 10 ◌>>=◌
abbrev pub ◌>>=◌ : {A B : Type 0} → Result A SetFault → (A → Result B SetFault) → Result B SetFault
(Ok x) >>= f = f x
(Err e) >>= f = Err e

-- these rules, and the rules of further tables
abbrev pub read_rules : List Rule → List Data → Result (List Rule) SetFault
read_rules rules [] = Ok rules
read_rules rules (value ∷ more) = do
  next ← read_rule (length rules) (members_in value)
  unless (repeated_pattern rules next.pattern) (read_rules (rules ++ next ∷ []) more)

-- ---- the whole

-- settings of the members of a connector, and of rules
abbrev pub values_of : Members → List Rule → Values
values_of ms rules = record {
  limits = limits_of (λ limit. value_at ms (OfLimit limit)) (parts_of rules);
  port = number (value_at ms Port);
  core = core_of ms;
  max = max_of ms;
  rules = rules;
}

-- The settings that the members of a text are, or the first refusal: a key at the top; `connector` that is no table; a
-- key or a value in it; its threads; `rule` that is no list of tables; then each rule.
abbrev pub outcome : Members → Result Values SetFault
outcome top =
    let found = get_member connector top in
    let rules = get_member rule top in
    let ms = members_found found in
    unless (filter_map unknown_at_top (keys top))
    (unless (refusals_of connector is_table false found)
    (unless (filter_map refused_key (entries ms))
    (unless (too_many_threads ms)
    (unless (refusals_of rule is_rule_list false rules)
    (read_rules [] (elements_found rules) >>= (λ read. Ok (values_of ms read)))))))
