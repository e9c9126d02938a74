-- What is left to show of `read_table`.
use Rattle.std.proofs.Common.{List, IsUtf8, subst, sym}
use Rattle.std.specs.Prelude.{All}
use Rattle.cy_map.specs.declared.rule.Rule.{Rule}
use Rattle.cy_config.proofs.reading.read_table.Goals as goal

pub returns-clause-utf8 : goal.returns-clause-utf8
returns-clause-utf8 c =
    subst (λ (rules : List Rule). All (λ (rule : Rule). IsUtf8 rule.pattern) rules) (sym c.settings_in.ensures.rules) c.in_ok-rules.ensures.utf8
