-- What is left to show of `last_segment`.
use Rattle.std.proofs.Common.{sym}
use Rattle.cy_map.proofs.Segments.{after_last_byte, after_no_byte}
use Rattle.cy_map.specs.Patterns.{slash}
use Rattle.cy_map.proofs.patterns.last_segment.Goals as goal

pub returns-in-Some : goal.returns-in-Some
returns-in-Some c = after_last_byte slash c.args.path.now c.in-Some.slash c.in-Some.ensures

pub returns-in-None : goal.returns-in-None
returns-in-None c = sym (after_no_byte slash c.args.path.now c.in-None.ensures)
