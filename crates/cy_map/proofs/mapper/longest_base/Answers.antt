-- What is left to show of `longest_base`.
use Rattle.std.proofs.Common.{◌≡◌, ◌∙◌, arith, length, max}
use Rattle.cy_map.proofs.Lookups.{bases_more, bases_all, base_within, no_base_within, ord_max_is}
use Rattle.cy_map.proofs.mapper.longest_base.Goals as goal
use Rattle.cy_map.proofs.mapper.longest_base.Goals.{in-Some, in_default}

pub loop-rule-preserved : goal.loop-rule-preserved
loop-rule-preserved c =
    let rule = c.rule-item.result in
    let more = c.match-prefix_base.longest in
    let go = bases_more c.args.rules.now c.loop-rule.rule-index rule c.loop-rule.longest more c.loop-rule-test.true c.rule-item.is in
    elim c.match-prefix_base.branch [
      | in-Some w ↦
          let base = w.in-Some.base.now in
          let is : more ≡ max c.loop-rule.longest (length base) = w.longest-is ∙ w.max-longest.ensures ∙ ord_max_is c.loop-rule.longest (length base) in
          go (omega (arith, is)) (base_within base rule.pattern c.as_slice.result.now more c.as_slice.ensures w.in-Some.ensures (omega (arith, is))) c.loop-rule.invariant
      | in_default w ↦
          go (omega (arith, w.longest-is)) (no_base_within rule.pattern c.as_slice.result.now more c.as_slice.ensures w.in_default.ensures) c.loop-rule.invariant
    ]

pub returns : goal.returns
returns c = bases_all c.args.rules.now c.loop-rule.rule-index c.loop-rule.longest c.loop-rule-test.false c.loop-rule.invariant
