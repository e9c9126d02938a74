-- What is left to show of `check_connector`.
use Rattle.std.proofs.Common.{◌≡◌, [], ◌∷◌, ap, ◌∙◌, List, String, Global, string_bytes, arith}
use Rattle.std.specs.List.{cons_option, filter_map}
use Rattle.std.proofs.lemmas.Grind.{common_steps}
use Rattle.toml.specs.declared.value.Value.{Value}
use Rattle.toml.specs.View.{members_view, table_view, view}
use Rattle.cy_config.specs.Members.{entries}
use Rattle.cy_config.specs.Meaning.{refused_key}
use Rattle.cy_config.proofs.Refused.{checks_more}
use Rattle.cy_config.proofs.Taken.{all_taken}
use Rattle.cy_config.proofs.values.check_connector.Goals as goal

pub returns-in_err-check_key-clause-refused : goal.returns-in_err-check_key-clause-refused
returns-in_err-check_key-clause-refused c =
    let iter : c.loop-key.key-iterator ≡ (c.in-Some.key.now, c.in-Some.value.now) ∷ c.next.new.self = grind (arith, common_steps) in
    let all : filter_map refused_key (entries (table_view c.args.connector.now)) ≡ cons_option (refused_key (string_bytes c.in-Some.key.now, view c.in-Some.value.now)) (filter_map refused_key (entries (members_view c.next.new.self))) =
    c.loop-key.invariant ∙ ap (λ (es : List (String Global × Value)). filter_map refused_key (entries (members_view es))) iter in
    rw (all, ← c.as_str.ensures.value) (checks_more c.from_residual.result c.in_err-check_key.field-0.0 _ _ c.from_residual.ensures.1 c.in_err-check_key.ensures)

pub returns-clause-taken : goal.returns-clause-taken
returns-clause-taken c =
    let none : filter_map refused_key (entries (table_view c.args.connector.now)) ≡ [] = grind (arith, common_steps) in
    all_taken (table_view c.args.connector.now) none
