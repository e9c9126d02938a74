-- The rules so far, the set of their patterns, and the next rule.
use Rattle.std.proofs.Common.{◌≡◌, true, false, List, ◌∷◌, ◌++◌, [], map, drop, length, get_or, ◌+◌, ◌<◌, ◌≤◌, Ok, Err, subst, sym, ap, ◌∙◌, arith}
use Rattle.std.proofs.lemmas.Grind.{common_steps}
use Rattle.toml.specs.declared.value.Value.{Value}
use Rattle.toml.specs.View.{table_view, view}
use Rattle.cy_settings.specs.Rules.{has_pattern}
use Rattle.cy_config.specs.Members.{is_table, members_in}
use Rattle.cy_config.specs.Meaning.{read_rule, read_rules}
use Rattle.cy_config.proofs.Refused.{reads_refused}
use Rattle.cy_config.proofs.RulesRead.{rest_read, rule_read, rule_refused, rule_twice, same_read, found_fresh, found_twice, table_at, one_more_part, one_more_pattern, one_more_rule, one_more_text}
use Rattle.cy_config.proofs.rules.read_rules.Goals as goal

pub table_in-table-requires : goal.table_in-table-requires
table_in-table-requires c =
    subst (λ (v : Value). is_table (view v) ≡ true) (sym c.value-item.is) (table_at c.args.values.now c.loop-value.value-index c.value-item.result c.loop-value-test.true c.requires.tables)

pub returns-in_err-rule-clause-read : goal.returns-in_err-rule-clause-read
returns-in_err-rule-clause-read c =
    reads_refused _ c.from_residual.result c.in_err-rule.field-0.0 _ c.from_residual.ensures.1 (λ other.
    let number : c.len.result ≡ length c.loop-value.rules.items = grind (arith, common_steps) in
    let read : read_rule (length c.loop-value.rules.items) (members_in (view c.value-item.result)) ≡ Err c.in_err-rule.field-0.0 =
    same_read _ c.len.result _ (table_view c.table_in-table.result.now) _ number c.table_in-table.ensures (c.in_err-rule.ensures.read other) in
    c.loop-value.invariant.read
    ∙ rest_read c.loop-value.rules.items c.args.values.now c.loop-value.value-index c.value-item.result c.loop-value-test.true c.value-item.is
    ∙ rule_refused c.loop-value.rules.items (view c.value-item.result) (map view (drop (c.loop-value.value-index + 1) c.args.values.now)) c.in_err-rule.field-0.0 read)

pub returns-then-not-branch-clause-read : goal.returns-then-not-branch-clause-read
returns-then-not-branch-clause-read c = λ other.
    let number : c.len.result ≡ length c.loop-value.rules.items = grind (arith, common_steps) in
    let read : read_rule (length c.loop-value.rules.items) (members_in (view c.value-item.result)) ≡ Ok c.in_ok-rule.rule =
    same_read _ c.len.result _ (table_view c.table_in-table.result.now) _ number c.table_in-table.ensures c.in_ok-rule.ensures.read in
    let twice : has_pattern c.loop-value.rules.items c.in_ok-rule.rule.pattern ≡ true =
    found_twice c.in_ok-insert.field-0 c.pattern_at.result c.loop-value.patterns.keys c.loop-value.rules.items c.in_ok-rule.rule c.in_ok-insert.ensures.added (grind (arith, common_steps)) (c.in_ok-rule.ensures.pattern ∙ sym c.pattern_at.ensures) c.loop-value.invariant.patterns in
    c.loop-value.invariant.read
    ∙ rest_read c.loop-value.rules.items c.args.values.now c.loop-value.value-index c.value-item.result c.loop-value-test.true c.value-item.is
    ∙ rule_twice c.loop-value.rules.items (view c.value-item.result) (map view (drop (c.loop-value.value-index + 1) c.args.values.now)) c.in_ok-rule.rule read twice
    ∙ grind (arith, common_steps)

pub loop-value-preserved : goal.loop-value-preserved
loop-value-preserved c =
    let number : c.len.result ≡ length c.loop-value.rules.items = grind (arith, common_steps) in
    let read : read_rule (length c.loop-value.rules.items) (members_in (view c.value-item.result)) ≡ Ok c.in_ok-rule.rule =
    same_read _ c.len.result _ (table_view c.table_in-table.result.now) _ number c.table_in-table.ensures c.in_ok-rule.ensures.read in
    let fresh : has_pattern c.loop-value.rules.items c.in_ok-rule.rule.pattern ≡ false =
    found_fresh c.in_ok-insert.field-0 c.pattern_at.result c.loop-value.patterns.keys c.loop-value.rules.items c.in_ok-rule.rule c.in_ok-insert.ensures.added (grind (arith, common_steps)) (c.in_ok-rule.ensures.pattern ∙ sym c.pattern_at.ensures) c.loop-value.invariant.patterns in
    let few : length c.loop-value.rules.items < 1024 = omega (arith, c.loop-value.invariant.count, c.requires.few) in
    let pushed : c.push.new.self.items ≡ c.loop-value.rules.items ++ c.in_ok-rule.rule ∷ [] = grind (arith, common_steps) in
    record {
      read =
          c.loop-value.invariant.read
          ∙ rest_read c.loop-value.rules.items c.args.values.now c.loop-value.value-index c.value-item.result c.loop-value-test.true c.value-item.is
          ∙ rule_read c.loop-value.rules.items (view c.value-item.result) (map view (drop (c.loop-value.value-index + 1) c.args.values.now)) c.in_ok-rule.rule read fresh
          ∙ ap (λ rules. read_rules rules (map view (drop (c.loop-value.value-index + 1) c.args.values.now))) (sym pushed);
      count = grind (arith, common_steps);
      taken = rw pushed (one_more_rule c.loop-value.rules.items c.in_ok-rule.rule c.loop-value.invariant.taken c.in_ok-rule.ensures.good fresh few);
      known_parts = rw pushed (one_more_part c.loop-value.rules.items c.in_ok-rule.rule c.loop-value.invariant.known_parts c.in_ok-rule.ensures.part);
      utf8 = rw pushed (one_more_text c.loop-value.rules.items c.in_ok-rule.rule c.loop-value.invariant.utf8 c.in_ok-rule.ensures.utf8);
      patterns = rw pushed (one_more_pattern c.pattern_at.result c.insert.new.self.keys c.loop-value.patterns.keys c.loop-value.rules.items c.in_ok-rule.rule c.in_ok-insert.ensures.keys (c.in_ok-rule.ensures.pattern ∙ sym c.pattern_at.ensures) c.loop-value.invariant.patterns);
    }
