-- What holds of the rules of scripts and of files as wholes.
use Rattle.std.specs.Prelude.{◌≡◌, ℕ, ◌+◌, ◌≤◌, max, nat_le, nat_lt, Bool, true, not, ◌&&◌, List, length, fold, bytes_eq}
use Rattle.std.specs.List.{list_any}
use Rattle.cy_map.specs.declared.rule.Rule.{Rule}
use Rattle.cy_map.specs.declared.mapper.TheConstants.{MAX_RULES}
use Rattle.cy_map.specs.Patterns.{is_pattern}
use Rattle.cy_map.specs.Refusals.{IsTaken}

-- the greatest number of a component
abbrev pub most_part : ℕ
most_part = 255

-- the number of its component is no greater than the greatest
abbrev pub has_part : Rule → Bool
has_part rule = nat_le rule.part most_part

-- one more than the greatest number of a component, or 0 without rules
abbrev pub parts_of : List Rule → ℕ
parts_of rules = fold (λ parts rule. max parts (rule.part + 1)) 0 rules

-- one of the rules has the pattern
abbrev pub has_pattern : List Rule → List ℕ → Bool
has_pattern rules pattern = list_any (λ rule. bytes_eq rule.pattern pattern) rules

-- the pattern is one and stands nowhere before, and there is room for the rule
abbrev pub is_next_rule : List Rule → Rule → Bool
is_next_rule rules rule = is_pattern rule.pattern && (not (has_pattern rules rule.pattern) && nat_lt (length rules) MAX_RULES)

-- the pattern of each is one, none stands twice, and there are not too many
pub record AreRules (rules : List Rule) : Type 0 where
  pub taken : IsTaken rules
  pub few : length rules ≤ MAX_RULES
