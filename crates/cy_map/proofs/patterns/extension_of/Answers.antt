-- What is left to show of `extension_of`.
use Rattle.cy_map.proofs.Segments.{after_last_dot, after_no_dot}
use Rattle.cy_map.proofs.patterns.extension_of.Goals as goal

pub returns-in-Some : goal.returns-in-Some
returns-in-Some c = after_last_dot c.args.path.now c.last_segment-segment.result.now c.in-Some.dot c.last_segment-segment.ensures c.in-Some.ensures

pub returns-in-None : goal.returns-in-None
returns-in-None c = after_no_dot c.args.path.now c.last_segment-segment.result.now c.last_segment-segment.ensures c.in-None.ensures
