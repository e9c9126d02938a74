-- A script as it is written: its lines, and what they say together.
use Rattle.std.specs.Prelude.{◌≡◌, ℕ, Bool, true, false, not, List, [], ◌∷◌, codes, negsuc, Option, Some, None, fold}
use Rattle.std.specs.List.{AllZip, filter_map, list_all}
use Rattle.cy_event.specs.Limits.{standard}
use Rattle.cy_event.specs.declared.limits.Limits.{Limits}
use Rattle.cy_event.specs.declared.steps.Step.{Step}
use Rattle.cy_map.specs.declared.rule.Rule.{Rule}
use Rattle.cy_script.specs.declared.script.Script.{Script}
use Rattle.cy_script.specs.declared.statements.Statement.{Statement}
use Rattle.cy_script.specs.declared.statements.Statement.TheVariants as statement
use Rattle.cy_script.specs.Conditions.{AreSteps}
use Rattle.cy_script.specs.TextLines.{HasLines, IsWritten}
use Rattle.cy_script.specs.Settings.{with_setting}
use Rattle.cy_settings.specs.Rules.{parts_of, AreRules}

-- ---- what the statements say together

abbrev pub rule_of : Statement → Option Rule
rule_of (statement.Rule rule) = Some rule
rule_of s = None

abbrev pub step_of : Statement → Option Step
step_of (statement.Step step) = Some step
step_of s = None

-- the limits behind a statement; a later value of a setting replaces the former
abbrev pub limits_after : Limits → Statement → Limits
limits_after limits (statement.Set setting value) = with_setting setting value limits
limits_after limits statement.NoLimit = record limits { max_keep_alive = negsuc 0 }
limits_after limits s = limits

-- what statements say: the settings over the defaults, the rules, and the steps
abbrev pub said_by : List Statement → Script
said_by statements = record {
  limits = record (fold limits_after (standard 0) statements) { parts = parts_of (filter_map rule_of statements) };
  rules = filter_map rule_of statements;
  steps = filter_map step_of statements;
}

-- ---- their order

abbrev pub is_for_the_front : Statement → Bool
is_for_the_front (statement.Set setting value) = true
is_for_the_front statement.NoLimit = true
is_for_the_front (statement.Rule rule) = true
is_for_the_front s = false

-- settings and rules stand before every step
abbrev pub IsInOrder : List Statement → Type 0
IsInOrder [] = Unit {0}
IsInOrder (statement.Step step ∷ rest) = list_all (λ s. not (is_for_the_front s)) rest ≡ true
IsInOrder (s ∷ rest) = IsInOrder rest

-- ---- the script

abbrev pub first_line : List ℕ
first_line = codes "coyote-script 1"

-- The text is this script: behind the first line, each line is a statement as it is written.
pub record IsScriptText (text : List ℕ) (script : Script) : Type 0 where
  pub lines : List (List ℕ)
  pub statements : List Statement
  pub has_lines : HasLines text (first_line ∷ lines)
  pub are_written : AllZip IsWritten statements lines
  pub in_order : IsInOrder statements
  pub says : script ≡ said_by statements
  pub rules : AreRules script.rules
  pub steps : AreSteps script.steps
