-- What is left to show of `first_repeat`.
use Rattle.std.proofs.Common.{below_more, Some, None}
use Rattle.cy_map.proofs.Repeats.{earlier_is, none_at_all}
use Rattle.cy_map.proofs.mapper.first_repeat.Goals as goal

pub returns-in-Some-clause-found : goal.returns-in-Some-clause-found
returns-in-Some-clause-found c = record {
  first = c.loop-place.invariant;
  stands = earlier_is c.args.rules.now c.loop-place.place c.index-rules-place.result _ (Some c.in-Some.first) c.loop-place-test.true c.index-rules-place.is c.as_slice-pattern.ensures c.in-Some.ensures.place;
}

pub loop-place-preserved : goal.loop-place-preserved
loop-place-preserved c =
    below_more _ _ c.loop-place.invariant
    (earlier_is c.args.rules.now c.loop-place.place c.index-rules-place.result _ None c.loop-place-test.true c.index-rules-place.is c.as_slice-pattern.ensures c.in_default.ensures.place)

pub returns-clause-none : goal.returns-clause-none
returns-clause-none c = none_at_all c.args.rules.now c.loop-place.place c.loop-place-test.false c.loop-place.invariant
