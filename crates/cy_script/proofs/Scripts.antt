-- A script that is read is spelled so, and a script that is spelled so is read.
use Rattle.std.proofs.Common.{◌≡◌, ℕ, inl, inr, cond, List, [], ◌∷◌, ◌++◌, Option, Some, None, refl, sym, ap, subst, ◌∙◌, arith}
use Rattle.std.specs.Prelude.{bytes_eq, option_map}
use Rattle.std.specs.Option.{option_and_then}
use Rattle.cy_script.specs.declared.script.Script.{Script}
use Rattle.cy_script.specs.declared.statements.Statement.{Statement}
use Rattle.cy_script.specs.Conditions.{AreSteps}
use Rattle.cy_settings.specs.Rules.{AreRules}
use Rattle.cy_script.specs.TextLines.{HasLines}
use Rattle.cy_script.specs.Reading.{after_lines, after_statement, lines_of, nothing_said, script_of, script_of_lines, statement_of, with_parts}
use Rattle.cy_script.specs.Spelling.{first_line, IsScriptText}
use Rattle.cy_script.proofs.FieldsRead.{map_some}
use Rattle.cy_script.proofs.Lines.{has_its_lines, lines_are_read}
use Rattle.cy_script.proofs.Sayings.{follow_again, lines_again, lines_say, statements_follow, IsAllowed}
use Rattle.cy_script.proofs.StepLines.{same_bytes}
use Rattle.cy_script.proofs.Words.{some_then}

-- ---- an empty line at the end says nothing

abbrev from_statement : List (List ℕ) → Script → Option Statement → Option Script
from_statement lines script o = option_and_then (λ said. option_and_then (λ next. after_lines next lines) (after_statement script said)) o

empty_says_nothing : (lines : List (List ℕ)) (script : Script) → after_lines script (lines ++ [] ∷ []) ≡ after_lines script lines
empty_says_nothing [] script = refl
empty_says_nothing (line ∷ lines) script =
    elim (statement_of line) as (λ o. from_statement (lines ++ [] ∷ []) script o ≡ from_statement lines script o) [
      | None ↦ refl
      | Some said ↦ elim (after_statement script said) as (λ o. option_and_then (λ next. after_lines next (lines ++ [] ∷ [])) o ≡ option_and_then (λ next. after_lines next lines) o) [
        | None ↦ refl
        | Some next ↦ empty_says_nothing lines next
      ]
    ]

without_empty : (lines : List (List ℕ)) (script : Script) → script_of_lines (lines ++ [] ∷ []) ≡ Some script → script_of_lines lines ≡ Some script
without_empty [] script h = absurd cc
without_empty (line ∷ lines) script h = ap (λ (o : Option Script). cond (bytes_eq line first_line) (option_map with_parts o) None) (sym (empty_says_nothing lines nothing_said)) ∙ h

-- ---- the two laws

-- no rules and no steps are allowed
pub nothing_allowed : IsAllowed nothing_said
nothing_allowed = record {
  rules = record { taken = record { good = refl; distinct = λ place. refl }; few = omega arith };
  steps = record { of_connections = refl; once = λ n. omega arith; short = omega arith };
}

-- Lines are a script, behind the first.
record AreLines (lines : List (List ℕ)) (script : Script) : Type 0 where
  pub rest : List (List ℕ)
  pub end : Script
  pub parts : lines ≡ first_line ∷ rest
  pub reads : after_lines nothing_said rest ≡ Some end
  pub is : with_parts end ≡ script

lines_are : (lines : List (List ℕ)) (script : Script) → script_of_lines lines ≡ Some script → AreLines lines script
lines_are [] script h = absurd cc
lines_are (line ∷ lines) script h =
    let first = some_then (bytes_eq line first_line) (option_map with_parts (after_lines nothing_said lines)) script h in
    let end = map_some (after_lines nothing_said lines) with_parts script first.1 in
    record {
      rest = lines;
      end = end.0;
      parts = ap (λ (l : List ℕ). l ∷ lines) (same_bytes line first_line first.0);
      reads = end.1;
      is = end.2;
    }

-- What is read is spelled so.
pub read_is_script : (text : List ℕ) (script : Script) → script_of text ≡ Some script → IsScriptText text script
unfolding script_of
read_is_script text script h =
    let are = lines_are (lines_of text) script h in
    let said = lines_say are.rest nothing_said are.end are.reads in
    let follow = statements_follow said.statements nothing_said are.end nothing_allowed said.say in
    record {
      lines = are.rest;
      statements = said.statements;
      has_lines = subst (HasLines text) are.parts (has_its_lines text);
      are_written = said.are_written;
      in_order = follow.in_order;
      says = sym are.is ∙ ap with_parts follow.says;
      rules = subst (λ (s : Script). AreRules s.rules) are.is follow.allowed.rules;
      steps = subst (λ (s : Script). AreSteps s.steps) are.is follow.allowed.steps;
    }

-- What is spelled so is read.
pub script_is_read : (text : List ℕ) (script : Script) → IsScriptText text script → script_of text ≡ Some script
unfolding script_of
script_is_read text script s =
    let rules = subst (λ (t : Script). AreRules t.rules) s.says s.rules in
    let steps = subst (λ (t : Script). AreSteps t.steps) s.says s.steps in
    let followed = follow_again s.statements nothing_said s.in_order rules steps in
    let whole : script_of_lines (first_line ∷ s.lines) ≡ Some script =
    ap (option_map with_parts) (lines_again s.statements s.lines nothing_said _ s.are_written followed) ∙ ap Some (sym s.says) in
    elim (lines_are_read text (first_line ∷ s.lines) s.has_lines) as (λ _. script_of_lines (lines_of text) ≡ Some script) [
      | inl same ↦ ap script_of_lines (sym same) ∙ whole
      | inr more ↦ without_empty (lines_of text) script (ap script_of_lines (sym more) ∙ whole)
    ]
