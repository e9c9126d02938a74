-- What an index of rules holds.
use Rattle.std.specs.Prelude.{◌≡◌, ℕ, ◌≤◌, List, length, Option, IfSome, All, find, bytes_eq, slice_get}
use Rattle.std.specs.Option.{option_and_then}
use Rattle.std.specs.HashMap.{get_by}
use Rattle.cy_map.specs.declared.rule.Rule.{Rule}
use Rattle.cy_map.specs.declared.index.Index.{Index}
use Rattle.cy_map.specs.declared.index.Form.{Form}
use Rattle.cy_map.specs.declared.index.Form.TheVariants.{Exact, Prefix, Extension}
use Rattle.cy_map.specs.Patterns.{exact_path, prefix_base, extension_name}
use Rattle.cy_map.specs.Mapping.{reads_as}

-- how a pattern of this form is read
abbrev pub reading_of : Form → List ℕ → Option (List ℕ)
reading_of Exact pattern = exact_path pattern
reading_of Prefix pattern = prefix_base pattern
reading_of Extension pattern = extension_name pattern

-- the first rule of this form that is read as the text
abbrev pub first_read : Form → List Rule → List ℕ → Option Rule
first_read form rules text = find (λ rule. reads_as (reading_of form rule.pattern) text) rules

-- the rule whose place stands at the text
abbrev pub rule_at : Index → List Rule → List ℕ → Option Rule
rule_at index rules text = option_and_then (slice_get rules) (get_by (λ key. bytes_eq text key.items) index.places)

-- at each text stands the first rule of this form that is read as it
abbrev pub IsIndexOf : Form → List Rule → Index → Type 0
IsIndexOf form rules index = (text : List ℕ) → rule_at index rules text ≡ first_read form rules text

-- no prefix has a base longer than this
abbrev pub AreBasesWithin : List Rule → ℕ → Type 0
AreBasesWithin rules longest = All (λ rule. IfSome (prefix_base rule.pattern) (λ base. length base ≤ longest)) rules
