-- What the loops of `longest_base` keep.
use Rattle.std.proofs.Common.{take}
use Rattle.cy_map.specs.Indexes.{AreBasesWithin}
use Rattle.cy_map.proofs.mapper.longest_base.Given as goal

-- no base so far is longer
abbrev pub invariant-loop-rule : goal.invariant-loop-rule
invariant-loop-rule l = AreBasesWithin (take l.rule-index l.rules) l.longest
