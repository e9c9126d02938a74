-- What is left to show of `rule_tables`.
use Rattle.std.proofs.Common.{◌≡◌, ◌&&◌, true, leb, length, sym, ◌∙◌}
use Rattle.std.specs.List.{list_all}
use Rattle.std.proofs.lemmas.Bool.{and_parts}
use Rattle.std.proofs.lemmas.List.Folds.{list_all-map}
use Rattle.toml.specs.declared.value.Value.{Value}
use Rattle.toml.specs.View.{view}
use Rattle.cy_config.specs.Members.{is_table}
use Rattle.cy_config.proofs.Refused.{rule_list}
use Rattle.cy_config.proofs.rules.rule_tables.Goals as goal

pub returns-in-Some-as_array-clause-found : goal.returns-in-Some-as_array-clause-found
returns-in-Some-as_array-clause-found c =
    rw (c.as_slice.ensures.value, ← c.in-Some.ensures) (sym (rule_list (view c.in-Some.value.now) c.in-Some-as_array.values.now.items c.in-Some-as_array.ensures).1)

pub returns-in-Some-as_array-clause-tables : goal.returns-in-Some-as_array-clause-tables
returns-in-Some-as_array-clause-tables c =
    let both : (list_all (λ (v : Value). is_table (view v)) c.in-Some-as_array.values.now.items && leb (length c.in-Some-as_array.values.now.items) 1024) ≡ true =
    rw c.deref.ensures.value at (sym c.if-are_rules.ensures) in
    rw c.as_slice.ensures.value (list_all-map is_table view c.in-Some-as_array.values.now.items ∙ (and_parts (list_all (λ (v : Value). is_table (view v)) c.in-Some-as_array.values.now.items) _ both).0)
