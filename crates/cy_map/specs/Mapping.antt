-- Which rule serves a path (Servlet 3.1, 12.1).
use Rattle.std.specs.Prelude.{ℕ, Bool, false, ◌&&◌, ◌||◌, not, nat_le, List, length, Option, None, Some, find, bytes_eq}
use Rattle.std.specs.List.{list_all}
use Rattle.std.specs.Option.{option_map_or}
use Rattle.cy_map.specs.declared.rule.Rule.{Rule}
use Rattle.cy_map.specs.declared.rule.Found.{Found}
use Rattle.cy_map.specs.Patterns.{is_default, exact_path, prefix_base, extension_name, is_under, extension_of}

-- a pattern is read as this text
abbrev pub reads_as : Option (List ℕ) → List ℕ → Bool
reads_as reading text = option_map_or (λ read. bytes_eq read text) reading false

-- the rule's pattern is the path
abbrev pub is_exact_for : List ℕ → Rule → Bool
is_exact_for path rule = reads_as (exact_path rule.pattern) path

-- the rule's pattern is a prefix that the path is under
abbrev pub is_prefix_for : List ℕ → Rule → Bool
is_prefix_for path rule = option_map_or (λ base. is_under base path) (prefix_base rule.pattern) false

-- the other rule is no prefix for the path, or no longer one
abbrev pub is_no_longer : List ℕ → Rule → Rule → Bool
is_no_longer path rule other = not (is_prefix_for path other) || nat_le (length other.pattern) (length rule.pattern)

-- the rule is a prefix for the path, and none of the rules is a longer one
abbrev pub is_longest_for : List Rule → List ℕ → Rule → Bool
is_longest_for rules path rule = is_prefix_for path rule && list_all (is_no_longer path rule) rules

-- the rule's pattern is the extension that the path has
abbrev pub is_extension_for : List ℕ → Rule → Bool
is_extension_for path rule = option_map_or (λ extension. reads_as (extension_name rule.pattern) extension) (extension_of path) false

-- the rule is the default
abbrev pub is_default_rule : Rule → Bool
is_default_rule rule = is_default rule.pattern

-- the first of two, or else the second
abbrev pub first_of_two : Option Rule → Option Rule → Option Rule
first_of_two None other = other
first_of_two (Some rule) other = Some rule

-- the rule that a path finds: the exact one, else the longest prefix, else the extension, else the default
abbrev pub mapped : List Rule → List ℕ → Option Rule
mapped rules path =
    first_of_two (find (is_exact_for path) rules)
    (first_of_two (find (is_longest_for rules path) rules)
    (first_of_two (find (is_extension_for path) rules)
    (find is_default_rule rules)))

-- what is told of a rule that was found
abbrev pub found_of : Rule → Found
found_of rule = record { part = rule.part; can_async = rule.can_async }
