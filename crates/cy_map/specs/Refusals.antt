-- Which lists of rules are refused.
use Rattle.std.specs.Prelude.{◌≡◌, ℕ, ◌<◌, not, List, take, Option, None, Some, bytes_eq, position, slice_get}
use Rattle.std.specs.Option.{option_and_then}
use Rattle.cy_map.specs.declared.rule.Rule.{Rule}
use Rattle.cy_map.specs.Patterns.{is_pattern}

-- the place of the first rule whose pattern is bad
abbrev pub first_bad : List Rule → Option ℕ
first_bad rules = position (λ rule. not (is_pattern rule.pattern)) rules

-- where the pattern of the rule at this place stands first among the rules before it
abbrev pub earlier_rule : List Rule → ℕ → Option ℕ
earlier_rule rules place = option_and_then (λ rule. position (λ other. bytes_eq other.pattern rule.pattern) (take place rules)) (slice_get rules place)

-- the pattern at j is the first that stands before, and it stands first at i
pub record IsFirstRepeat (rules : List Rule) (i j : ℕ) : Type 0 where
  pub first : (place : ℕ) → place < j → earlier_rule rules place ≡ None
  pub stands : earlier_rule rules j ≡ Some i

-- every pattern is one, and none stands twice
pub record IsTaken (rules : List Rule) : Type 0 where
  pub good : first_bad rules ≡ None
  pub distinct : (place : ℕ) → earlier_rule rules place ≡ None
