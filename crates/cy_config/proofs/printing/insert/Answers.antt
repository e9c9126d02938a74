-- What is left to show of `insert`.
use Rattle.std.proofs.Common.{◌≡◌, List, ℕ, ap, ◌∙◌}
use Rattle.toml.specs.View.{members_view, table_view, view}
use Rattle.cy_config.specs.Printing.{insert}
use Rattle.cy_config.proofs.Inserted.{insert-view}
use Rattle.cy_config.proofs.printing.insert.Goals as goal

pub returns : goal.returns
returns c =
    ap members_view c.in_ok-insert.ensures.entries
    ∙ insert-view c.args.table.now.entries c.in_ok-from_str.field-0 c.args.value
    ∙ ap (λ (key : List ℕ). insert key (view c.args.value) (table_view c.args.table.now)) c.in_ok-from_str.ensures.ok
