-- What is left to show of `rules_of`.
use Rattle.std.proofs.Common.{IsUtf8, subst, sym}
use Rattle.std.proofs.lemmas.List.Elements.{All-get_or}
use Rattle.cy_map.specs.declared.rule.Rule.{Rule}
use Rattle.cy_config.proofs.printing.rules_of.Goals as goal

pub rule_of-requires : goal.rule_of-requires
rule_of-requires c = record {
  utf8 =
      subst (λ (rule : Rule). IsUtf8 rule.pattern) (sym c.rule-item.is)
      (All-get_or (λ (rule : Rule). IsUtf8 rule.pattern) c.args.rules.now c.loop-rule.rule-index c.rule-item.result c.loop-rule-test.true c.requires.utf8);
}
