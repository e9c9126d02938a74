-- What the loops of `copied` keep.
use Rattle.std.proofs.Common.{◌≡◌, take}
use Rattle.cy_map.proofs.rule.copied.Given as goal

abbrev pub invariant-loop-rule : goal.invariant-loop-rule
invariant-loop-rule l = l.copies.items ≡ take l.rule-index l.rules
