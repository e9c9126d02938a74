-- What every script keeps that is spelled in a text.
use Rattle.std.proofs.Common.{◌≡◌, ℕ, inl, inr, true, eqb, List, [], ◌∷◌, length, refl, sym, ap, subst, arith}
use Rattle.std.specs.Prelude.{fold, negsuc, pos}
use Rattle.std.specs.List.{AllZip, filter_map, list_all}
use Rattle.std.proofs.lemmas.Bool.{and_from, le-leb}
use Rattle.std.proofs.lemmas.Bool.Decides.{nat_tests}
use Rattle.cy_event.specs.Limits.{standard}
use Rattle.cy_event.specs.declared.limits.Limits.{Limits}
use Rattle.cy_event.specs.declared.steps.Act.TheVariants as act
use Rattle.cy_event.specs.declared.steps.Event.TheVariants as event
use Rattle.cy_event.specs.declared.steps.Step.{Step}
use Rattle.cy_event.specs.declared.steps.Step.TheVariants as step
use Rattle.cy_script.specs.declared.script.Script.{Script}
use Rattle.cy_settings.specs.declared.limit.Limit.{Limit}
use Rattle.cy_settings.specs.declared.limit.Limit.TheVariants.{MaxConnections, MaxHttpHeaderSize, MaxHeaderCount, MaxKeepAliveRequests, ConnectionTimeout, AsyncTimeout, MaxSwallowSize, MaxTrailerSize}
use Rattle.cy_script.specs.declared.statements.Statement.{Statement}
use Rattle.cy_script.specs.declared.statements.Statement.TheVariants as statement
use Rattle.cy_script.specs.Conditions.{AreSteps}
use Rattle.cy_script.specs.Kept.{has_its_bytes, AreLimits, IsKeepAlive, IsScript}
use Rattle.cy_script.specs.TextLines.{IsStepLine, IsWritten}
use Rattle.cy_script.specs.Settings.{with_setting, IsInRange}
use Rattle.cy_settings.specs.Rules.{has_part, AreRules}
use Rattle.cy_script.specs.Spelling.{limits_after, rule_of, step_of, IsScriptText}

-- ---- limits

set_kept : (setting : Limit) (value : ℕ) (limits : Limits) → IsInRange setting value → AreLimits limits → AreLimits (with_setting setting value limits)
set_kept MaxConnections value limits range are = assumption
set_kept MaxHttpHeaderSize value limits range are = assumption
set_kept MaxHeaderCount value limits range are = assumption
set_kept MaxKeepAliveRequests value limits range are =
    let keeps : IsKeepAlive (pos value) = inr (value, range, refl) in
    assumption
set_kept ConnectionTimeout value limits range are = assumption
set_kept AsyncTimeout value limits range are = assumption
set_kept MaxSwallowSize value limits range are = assumption
set_kept MaxTrailerSize value limits range are = assumption

no_limit_kept : (limits : Limits) → AreLimits limits → AreLimits (record limits { max_keep_alive = negsuc 0 })
no_limit_kept limits are = let keeps : IsKeepAlive (negsuc 0) = inl refl in assumption

pub limits_kept : (statements : List Statement) (lines : List (List ℕ)) (limits : Limits) → AllZip IsWritten statements lines → AreLimits limits → AreLimits (fold limits_after limits statements)
limits_kept [] lines limits written are = are
limits_kept (s ∷ statements) [] limits written are = absurd written
limits_kept (statement.Nothing ∷ statements) (line ∷ lines) limits written are = limits_kept statements lines limits written.1 are
limits_kept (statement.Set setting value ∷ statements) (line ∷ lines) limits written are =
    limits_kept statements lines (with_setting setting value limits) written.1 (set_kept setting value limits written.0.0 are)
limits_kept (statement.NoLimit ∷ statements) (line ∷ lines) limits written are =
    limits_kept statements lines (record limits { max_keep_alive = negsuc 0 }) written.1 (no_limit_kept limits are)
limits_kept (statement.Rule rule ∷ statements) (line ∷ lines) limits written are = limits_kept statements lines limits written.1 are
limits_kept (statement.Step step ∷ statements) (line ∷ lines) limits written are = limits_kept statements lines limits written.1 are

standard_limits : (parts : ℕ) → AreLimits (standard parts)
standard_limits parts = record {
  connections = (omega arith, omega arith);
  head = (omega arith, omega arith);
  fields = (omega arith, omega arith);
  keep_alive = inr (100, (omega arith, omega arith), refl);
  connection_timeout = (omega arith, omega arith);
  async_timeout = (omega arith, omega arith);
  swallow = (omega arith, omega arith);
  trailer = (omega arith, omega arith);
}

-- ---- rules

pub parts_kept : (statements : List Statement) (lines : List (List ℕ)) → AllZip IsWritten statements lines → list_all has_part (filter_map rule_of statements) ≡ true
parts_kept [] lines written = refl
parts_kept (s ∷ statements) [] written = absurd written
parts_kept (statement.Nothing ∷ statements) (line ∷ lines) written = parts_kept statements lines written.1
parts_kept (statement.Set setting value ∷ statements) (line ∷ lines) written = parts_kept statements lines written.1
parts_kept (statement.NoLimit ∷ statements) (line ∷ lines) written = parts_kept statements lines written.1
parts_kept (statement.Rule rule ∷ statements) (line ∷ lines) written = rw (le-leb _ _ written.0.1) (parts_kept statements lines written.1)
parts_kept (statement.Step step ∷ statements) (line ∷ lines) written = parts_kept statements lines written.1

-- ---- steps

same_number : (m n : ℕ) → m ≡ n → eqb m n ≡ true
same_number m n h = grind (arith, nat_tests)

step_has_its_bytes : (line : List ℕ) (s : Step) → IsStepLine line s → has_its_bytes s ≡ true
step_has_its_bytes line (step.At moment) h = absurd h
step_has_its_bytes line (step.Admit conn) h = refl
step_has_its_bytes line (step.On conn event.In bytes) h = refl
step_has_its_bytes line (step.On conn event.End bytes) h = same_number (length bytes) 0 (ap length h.1)
step_has_its_bytes line (step.On conn (event.Took n) bytes) h = same_number (length bytes) 0 (ap length h.3)
step_has_its_bytes line (step.Run conn) h = refl
step_has_its_bytes line (step.Act conn (act.Read n) bytes) h = and_from _ _ (le-leb _ _ h.3) (same_number (length bytes) 0 (ap length h.4))
step_has_its_bytes line (step.Act conn (act.Write n) bytes) h = same_number n (length bytes) h.3
step_has_its_bytes line (step.Act conn act.Return bytes) h = same_number (length bytes) 0 (ap length h.1)

pub steps_have_their_bytes : (statements : List Statement) (lines : List (List ℕ)) → AllZip IsWritten statements lines → list_all has_its_bytes (filter_map step_of statements) ≡ true
steps_have_their_bytes [] lines written = refl
steps_have_their_bytes (s ∷ statements) [] written = absurd written
steps_have_their_bytes (statement.Nothing ∷ statements) (line ∷ lines) written = steps_have_their_bytes statements lines written.1
steps_have_their_bytes (statement.Set setting value ∷ statements) (line ∷ lines) written = steps_have_their_bytes statements lines written.1
steps_have_their_bytes (statement.NoLimit ∷ statements) (line ∷ lines) written = steps_have_their_bytes statements lines written.1
steps_have_their_bytes (statement.Rule rule ∷ statements) (line ∷ lines) written = steps_have_their_bytes statements lines written.1
steps_have_their_bytes (statement.Step s ∷ statements) (line ∷ lines) written = rw (step_has_its_bytes line s written.0) (steps_have_their_bytes statements lines written.1)

-- ---- the whole

said_limits : (limits : Limits) (parts : ℕ) → AreLimits limits → AreLimits (record limits { parts = parts })
said_limits limits parts are = assumption

-- What is spelled in a text is within the form.
pub script_kept : (text : List ℕ) (script : Script) → IsScriptText text script → IsScript script
script_kept text script s =
    subst IsScript (sym s.says) (record {
      limits = said_limits (fold limits_after (standard 0) s.statements) _ (limits_kept s.statements s.lines (standard 0) s.are_written (standard_limits 0));
      parts = refl;
      rules = subst (λ (t : Script). AreRules t.rules) s.says s.rules;
      known_parts = parts_kept s.statements s.lines s.are_written;
      steps = subst (λ (t : Script). AreSteps t.steps) s.says s.steps;
      bytes = steps_have_their_bytes s.statements s.lines s.are_written;
    })
