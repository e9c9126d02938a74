-- What the loops of `push_rules` keep.
use Rattle.std.proofs.Common.{◌≡◌, ◌++◌, take}
use Rattle.std.specs.List.{flat_map}
use Rattle.cyctl.specs.Check.{told_rule}
use Rattle.cyctl.proofs.check.push_rules.Given as goal

abbrev pub invariant-loop-rule : goal.invariant-loop-rule
invariant-loop-rule l = l.out.items ≡ l.initial.out.items ++ flat_map told_rule (take l.rule-index l.rules)
