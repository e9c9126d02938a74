-- What statements say one after another, and what they say together.
use Rattle.std.proofs.Common.{◌≡◌, ℕ, suc, Bool, true, cond, not, eqb, List, [], ◌∷◌, ◌++◌, length, Option, Some, None, refl, sym, ap, subst, ◌∙◌, append_assoc, arith}
use Rattle.std.specs.Prelude.{fold, negsuc}
use Rattle.std.specs.Option.{option_and_then}
use Rattle.std.specs.List.{AllZip, filter_map, list_all}
use Rattle.std.proofs.lemmas.Bool.Decides.{nat_tests}
use Rattle.std.proofs.lemmas.List.{append-nil}
use Rattle.cy_event.specs.declared.limits.Limits.{Limits}
use Rattle.cy_event.specs.declared.steps.Step.{Step}
use Rattle.cy_map.specs.declared.rule.Rule.{Rule}
use Rattle.cy_script.specs.declared.script.Script.{Script}
use Rattle.cy_settings.specs.declared.limit.Limit.{Limit}
use Rattle.cy_script.specs.declared.statements.Statement.{Statement}
use Rattle.cy_script.specs.declared.statements.Statement.TheVariants as statement
use Rattle.cy_script.specs.Conditions.{is_next_step, AreSteps}
use Rattle.cy_script.specs.TextLines.{IsWritten}
use Rattle.cy_script.specs.Reading.{after_lines, after_statement, before_steps, statement_of}
use Rattle.cy_script.specs.Settings.{with_setting}
use Rattle.cy_script.specs.Spelling.{is_for_the_front, limits_after, rule_of, step_of, IsInOrder}
use Rattle.cy_script.proofs.FieldsRead.{bind_some}
use Rattle.cy_settings.specs.Rules.{is_next_rule, AreRules}
use Rattle.cy_settings.proofs.RuleLists.{next_again, rules_kept}
use Rattle.cy_script.proofs.StepLists.{next_step, steps_kept}
use Rattle.cy_script.proofs.StatementLines.{statement_again, statement_is}
use Rattle.cy_script.proofs.Words.{some_then}

-- the script so far behind further statements
abbrev pub after_statements : Script → List Statement → Option Script
after_statements script [] = Some script
after_statements script (s ∷ statements) = option_and_then (λ next. after_statements next statements) (after_statement script s)

-- ---- lines and their statements

-- Statements that are written in lines, and what they say after a script.
pub record AreSaid (script : Script) (lines : List (List ℕ)) (end : Script) : Type 0 where
  pub statements : List Statement
  pub are_written : AllZip IsWritten statements lines
  pub say : after_statements script statements ≡ Some end

pub lines_say : (lines : List (List ℕ)) (script end : Script) → after_lines script lines ≡ Some end → AreSaid script lines end
lines_say [] script end h = record { statements = []; are_written = tt; say = h }
lines_say (line ∷ lines) script end h =
    let said = bind_some (statement_of line) (λ s. option_and_then (λ next. after_lines next lines) (after_statement script s)) end h in
    let next = bind_some (after_statement script said.0) (λ n. after_lines n lines) end said.2 in
    let rest = lines_say lines next.0 end next.2 in
    record {
      statements = said.0 ∷ rest.statements;
      are_written = (statement_is line said.0 said.1, rest.are_written);
      say = ap (λ (o : Option Script). option_and_then (λ n. after_statements n rest.statements) o) next.1 ∙ rest.say;
    }

pub lines_again : (statements : List Statement) (lines : List (List ℕ)) (script end : Script) → AllZip IsWritten statements lines
    → after_statements script statements ≡ Some end → after_lines script lines ≡ Some end
lines_again [] [] script end written h = h
lines_again [] (line ∷ lines) script end written h = absurd written
lines_again (s ∷ statements) [] script end written h = absurd written
lines_again (s ∷ statements) (line ∷ lines) script end written h =
    let next = bind_some (after_statement script s) (λ n. after_statements n statements) end h in
    ap (λ (o : Option Statement). option_and_then (λ t. option_and_then (λ n. after_lines n lines) (after_statement script t)) o) (statement_again line s written.0)
    ∙ ap (λ (o : Option Script). option_and_then (λ n. after_lines n lines) o) next.1
    ∙ lines_again statements lines next.0 end written.1 next.2

-- ---- the order

abbrev none_for_the_front : List Statement → Bool
none_for_the_front statements = list_all (λ s. not (is_for_the_front s)) statements

-- settings and rules stand before every step, where these steps stand before
abbrev pub IsInOrderAfter : List Step → List Statement → Type 0
IsInOrderAfter [] statements = IsInOrder statements
IsInOrderAfter (step ∷ steps) statements = none_for_the_front statements ≡ true

end_in_order : (steps : List Step) → IsInOrderAfter steps []
end_in_order [] = tt
end_in_order (step ∷ steps) = refl

nothing_in_order : (steps : List Step) (statements : List Statement) → IsInOrderAfter steps statements → IsInOrderAfter steps (statement.Nothing ∷ statements)
nothing_in_order [] statements h = h
nothing_in_order (step ∷ steps) statements h = h

nothing_again : (steps : List Step) (statements : List Statement) → IsInOrderAfter steps (statement.Nothing ∷ statements) → IsInOrderAfter steps statements
nothing_again [] statements h = h
nothing_again (step ∷ steps) statements h = h

step_in_order : (steps : List Step) (s : Step) (statements : List Statement) → IsInOrderAfter (steps ++ s ∷ []) statements → IsInOrderAfter steps (statement.Step s ∷ statements)
step_in_order [] s statements h = h
step_in_order (step ∷ steps) s statements h = h

step_again : (steps : List Step) (s : Step) (statements : List Statement) → IsInOrderAfter steps (statement.Step s ∷ statements) → IsInOrderAfter (steps ++ s ∷ []) statements
step_again [] s statements h = h
step_again (step ∷ steps) s statements h = h

no_length : (steps : List Step) → eqb (suc (length steps)) 0 ≡ true → ⊥
no_length steps h = let zero_length : suc (length steps) ≡ 0 = grind (arith, nat_tests, h) in omega arith

-- a statement for the front stands where it must
abbrev IsPlaced : List Step → Statement → List Statement → Type 0
IsPlaced steps s statements = (eqb (length steps) 0 ≡ true) × IsInOrderAfter steps statements

set_in_order : (steps : List Step) (setting : Limit) (value : ℕ) (statements : List Statement) → IsPlaced steps (statement.Set setting value) statements → IsInOrderAfter steps (statement.Set setting value ∷ statements)
set_in_order [] setting value statements h = h.1
set_in_order (step ∷ steps) setting value statements h = absurd (no_length steps h.0)

set_again : (steps : List Step) (setting : Limit) (value : ℕ) (statements : List Statement) → IsInOrderAfter steps (statement.Set setting value ∷ statements) → IsPlaced steps (statement.Set setting value) statements
set_again [] setting value statements h = (refl, h)
set_again (step ∷ steps) setting value statements h = absurd (cc h)

no_limit_in_order : (steps : List Step) (statements : List Statement) → IsPlaced steps statement.NoLimit statements → IsInOrderAfter steps (statement.NoLimit ∷ statements)
no_limit_in_order [] statements h = h.1
no_limit_in_order (step ∷ steps) statements h = absurd (no_length steps h.0)

no_limit_again : (steps : List Step) (statements : List Statement) → IsInOrderAfter steps (statement.NoLimit ∷ statements) → IsPlaced steps statement.NoLimit statements
no_limit_again [] statements h = (refl, h)
no_limit_again (step ∷ steps) statements h = absurd (cc h)

rule_in_order : (steps : List Step) (rule : Rule) (statements : List Statement) → IsPlaced steps (statement.Rule rule) statements → IsInOrderAfter steps (statement.Rule rule ∷ statements)
rule_in_order [] rule statements h = h.1
rule_in_order (step ∷ steps) rule statements h = absurd (no_length steps h.0)

rule_again : (steps : List Step) (rule : Rule) (statements : List Statement) → IsInOrderAfter steps (statement.Rule rule ∷ statements) → IsPlaced steps (statement.Rule rule) statements
rule_again [] rule statements h = (refl, h)
rule_again (step ∷ steps) rule statements h = absurd (cc h)

-- ---- what statements say

-- the script with what further statements say
abbrev pub with_said : Script → List Statement → Script
with_said script statements = record {
  limits = fold limits_after script.limits statements;
  rules = script.rules ++ filter_map rule_of statements;
  steps = script.steps ++ filter_map step_of statements;
}

-- the parts of a script, in place
abbrev script_with : Limits → List Rule → List Step → Script
script_with limits rules steps = record { limits = limits; rules = rules; steps = steps }

said_nothing : (script : Script) → with_said script [] ≡ script
said_nothing script =
    ap (λ (rules : List Rule). script_with script.limits rules (script.steps ++ [])) (append-nil script.rules)
    ∙ ap (λ (steps : List Step). script_with script.limits script.rules steps) (append-nil script.steps)

said_rule : (script : Script) (rule : Rule) (statements : List Statement)
    → with_said (record script { rules = script.rules ++ rule ∷ [] }) statements ≡ with_said script (statement.Rule rule ∷ statements)
said_rule script rule statements =
    ap (λ (rules : List Rule). script_with (fold limits_after script.limits statements) rules (script.steps ++ filter_map step_of statements)) (append_assoc script.rules (rule ∷ []) (filter_map rule_of statements))

said_step : (script : Script) (s : Step) (statements : List Statement)
    → with_said (record script { steps = script.steps ++ s ∷ [] }) statements ≡ with_said script (statement.Step s ∷ statements)
said_step script s statements =
    ap (λ (steps : List Step). script_with (fold limits_after script.limits statements) (script.rules ++ filter_map rule_of statements) steps) (append_assoc script.steps (s ∷ []) (filter_map step_of statements))

-- The rules and the steps of a script are allowed.
pub record IsAllowed (script : Script) : Type 0 where
  pub rules : AreRules script.rules
  pub steps : AreSteps script.steps

-- Statements follow a script in order, and say all of what follows.
pub record Follow (script : Script) (statements : List Statement) (end : Script) : Type 0 where
  pub in_order : IsInOrderAfter script.steps statements
  pub says : end ≡ with_said script statements
  pub allowed : IsAllowed end

pub statements_follow : (statements : List Statement) (script end : Script) → IsAllowed script → after_statements script statements ≡ Some end → Follow script statements end
statements_follow [] script end allowed h =
    let same : script ≡ end = cc h in
    record { in_order = end_in_order script.steps; says = sym same ∙ sym (said_nothing script); allowed = subst IsAllowed same allowed }
statements_follow (statement.Nothing ∷ statements) script end allowed h =
    let rest = statements_follow statements script end allowed h in
    record { in_order = nothing_in_order script.steps statements rest.in_order; says = rest.says; allowed = rest.allowed }
statements_follow (statement.Set setting value ∷ statements) script end allowed h =
    let made = record script { limits = with_setting setting value script.limits } in
    let next = bind_some (before_steps script made) (λ n. after_statements n statements) end h in
    let placed = some_then (eqb (length script.steps) 0) (Some made) next.0 next.1 in
    let same : next.0 ≡ made = cc placed.1 in
    let rest = statements_follow statements made end (record { rules = allowed.rules; steps = allowed.steps }) (subst (λ (n : Script). after_statements n statements ≡ Some end) same next.2) in
    record { in_order = set_in_order script.steps setting value statements (placed.0, rest.in_order); says = rest.says; allowed = rest.allowed }
statements_follow (statement.NoLimit ∷ statements) script end allowed h =
    let made = record script { limits = record script.limits { max_keep_alive = negsuc 0 } } in
    let next = bind_some (before_steps script made) (λ n. after_statements n statements) end h in
    let placed = some_then (eqb (length script.steps) 0) (Some made) next.0 next.1 in
    let same : next.0 ≡ made = cc placed.1 in
    let rest = statements_follow statements made end (record { rules = allowed.rules; steps = allowed.steps }) (subst (λ (n : Script). after_statements n statements ≡ Some end) same next.2) in
    record { in_order = no_limit_in_order script.steps statements (placed.0, rest.in_order); says = rest.says; allowed = rest.allowed }
statements_follow (statement.Rule rule ∷ statements) script end allowed h =
    let made = record script { rules = script.rules ++ rule ∷ [] } in
    let next = bind_some (cond (is_next_rule script.rules rule) (before_steps script made) None) (λ n. after_statements n statements) end h in
    let fits = some_then (is_next_rule script.rules rule) (before_steps script made) next.0 next.1 in
    let placed = some_then (eqb (length script.steps) 0) (Some made) next.0 fits.1 in
    let same : next.0 ≡ made = cc placed.1 in
    let rest = statements_follow statements made end (record { rules = rules_kept script.rules rule allowed.rules fits.0; steps = allowed.steps }) (subst (λ (n : Script). after_statements n statements ≡ Some end) same next.2) in
    record { in_order = rule_in_order script.steps rule statements (placed.0, rest.in_order); says = rest.says ∙ said_rule script rule statements; allowed = rest.allowed }
statements_follow (statement.Step s ∷ statements) script end allowed h =
    let made = record script { steps = script.steps ++ s ∷ [] } in
    let next = bind_some (cond (is_next_step script.steps s) (Some made) None) (λ n. after_statements n statements) end h in
    let fits = some_then (is_next_step script.steps s) (Some made) next.0 next.1 in
    let same : next.0 ≡ made = cc fits.1 in
    let rest = statements_follow statements made end (record { rules = allowed.rules; steps = steps_kept script.steps s allowed.steps fits.0 }) (subst (λ (n : Script). after_statements n statements ≡ Some end) same next.2) in
    record { in_order = step_in_order script.steps s statements rest.in_order; says = rest.says ∙ said_step script s statements; allowed = rest.allowed }

-- behind a script that is told, statements go on
abbrev going_on : List Statement → Option Script → Option Script
going_on statements o = option_and_then (λ n. after_statements n statements) o

-- Statements in order, by which rules and steps are allowed, are taken one after another.
pub follow_again : (statements : List Statement) (script : Script) → IsInOrderAfter script.steps statements
    → AreRules (script.rules ++ filter_map rule_of statements) → AreSteps (script.steps ++ filter_map step_of statements)
    → after_statements script statements ≡ Some (with_said script statements)
follow_again [] script order rules steps = ap Some (sym (said_nothing script))
follow_again (statement.Nothing ∷ statements) script order rules steps = follow_again statements script (nothing_again script.steps statements order) rules steps
follow_again (statement.Set setting value ∷ statements) script order rules steps =
    let made = record script { limits = with_setting setting value script.limits } in
    let placed = set_again script.steps setting value statements order in
    ap (λ (t : Bool). going_on statements (cond t (Some made) None)) placed.0 ∙ follow_again statements made placed.1 rules steps
follow_again (statement.NoLimit ∷ statements) script order rules steps =
    let made = record script { limits = record script.limits { max_keep_alive = negsuc 0 } } in
    let placed = no_limit_again script.steps statements order in
    ap (λ (t : Bool). going_on statements (cond t (Some made) None)) placed.0 ∙ follow_again statements made placed.1 rules steps
follow_again (statement.Rule rule ∷ statements) script order rules steps =
    let made = record script { rules = script.rules ++ rule ∷ [] } in
    let placed = rule_again script.steps rule statements order in
    let more = subst AreRules (sym (append_assoc script.rules (rule ∷ []) (filter_map rule_of statements))) rules in
    ap (λ (t : Bool). going_on statements (cond t (before_steps script made) None)) (next_again script.rules rule (filter_map rule_of statements) rules)
    ∙ ap (λ (t : Bool). going_on statements (cond t (Some made) None)) placed.0
    ∙ follow_again statements made placed.1 more steps
    ∙ ap Some (said_rule script rule statements)
follow_again (statement.Step s ∷ statements) script order rules steps =
    let made = record script { steps = script.steps ++ s ∷ [] } in
    let more = subst AreSteps (sym (append_assoc script.steps (s ∷ []) (filter_map step_of statements))) steps in
    ap (λ (t : Bool). going_on statements (cond t (Some made) None)) (next_step script.steps s (filter_map step_of statements) steps)
    ∙ follow_again statements made (step_again script.steps s statements order) rules more
    ∙ ap Some (said_step script s statements)
