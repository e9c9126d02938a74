-- What the loops of `read_lines` keep.
use Rattle.std.proofs.Common.{◌≡◌, length}
use Rattle.cy_script.specs.Reading.{after_lines, lines_of, nothing_said}
use Rattle.cy_script.proofs.reading.read_lines.Given as goal

abbrev pub invariant-loop-line : goal.invariant-loop-line
invariant-loop-line l = after_lines nothing_said (lines_of l.text) ≡ after_lines l.draft (lines_of l.rest)

abbrev pub decreases-loop-line : goal.decreases-loop-line
decreases-loop-line l = length (lines_of l.rest)
