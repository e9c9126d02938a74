-- What the loops of `parts_of` keep.
use Rattle.std.proofs.Common.{◌≡◌, take}
use Rattle.cy_settings.specs.Rules.{parts_of}
use Rattle.cy_settings.proofs.rules.parts_of.Given as goal

abbrev pub invariant-loop-rule : goal.invariant-loop-rule
invariant-loop-rule l = l.parts ≡ parts_of (take l.rule-index l.rules)
