-- All refusals of a text of settings, in the order in which the first is told.
use Rattle.std.specs.Prelude.{◌≡◌, ℕ, true, false, List, [], ◌∷◌, ◌++◌, length, map}
use Rattle.std.specs.List.{filter_map}
use Rattle.toml.specs.Data.{Data, Members, get_member, members_are_sorted}
use Rattle.cy_map.specs.declared.rule.Rule.{Rule}
use Rattle.cy_config.specs.declared.fault.SetFault.{SetFault}
use Rattle.cy_config.specs.Members.{entries, keys, members_in, is_table, is_text, is_flag, connector, rule, pattern, part, async, in_rule}
use Rattle.cy_config.specs.Meaning.{Values, bad_pattern, elements_found, is_part, is_rule_list, members_found, outcome, pattern_of, refusals_of, refused_key, repeated_pattern, rule_of, too_many_threads, unknown_at_top, unknown_in_rule, values_of}

-- those of the rule of a table, behind these rules
abbrev pub refusals_in_rule : List Rule → Members → List SetFault
refusals_in_rule before ms =
    let number = length before in
    filter_map (unknown_in_rule number) (keys ms)
    ++ (refusals_of (in_rule number pattern) is_text true (get_member pattern ms)
    ++ (refusals_of (in_rule number part) is_part true (get_member part ms)
    ++ (refusals_of (in_rule number async) is_flag false (get_member async ms)
    ++ (bad_pattern number (pattern_of ms) ++ repeated_pattern before (pattern_of ms)))))

-- those of the rules of further tables
abbrev pub refusals_in_rules : List Rule → List Data → List SetFault
refusals_in_rules before [] = []
refusals_in_rules before (value ∷ more) =
    refusals_in_rule before (members_in value) ++ refusals_in_rules (before ++ rule_of (members_in value) ∷ []) more

-- all of them
abbrev pub refusals : Members → List SetFault
refusals top =
    let ms = members_found (get_member connector top) in
    filter_map unknown_at_top (keys top)
    ++ (refusals_of connector is_table false (get_member connector top)
    ++ (filter_map refused_key (entries ms)
    ++ (too_many_threads ms
    ++ (refusals_of rule is_rule_list false (get_member rule top)
    ++ refusals_in_rules [] (elements_found (get_member rule top))))))

-- the settings by look-up, whatever is refused
abbrev pub settings_in : Members → Values
settings_in top = values_of (members_found (get_member connector top)) (map (λ value. rule_of (members_in value)) (elements_found (get_member rule top)))

-- Both tables hold the same at each key. A table that `toml` reads has its keys in their order.
pub record HoldTheSame (one other : Members) : Type 0 where
  pub one_in_order : members_are_sorted one ≡ true
  pub other_in_order : members_are_sorted other ≡ true
  pub same : (key : List ℕ) → get_member key one ≡ get_member key other
