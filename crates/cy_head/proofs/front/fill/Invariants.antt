-- The table holds the head with the fields so far.
use Rattle.std.proofs.Common.{◌≡◌, take}
use Rattle.cy_head.specs.Answers.{just_read}
use Rattle.cy_head.specs.HeadSpans.{head_at}
use Rattle.cy_head.proofs.front.fill.Given as goal

abbrev pub invariant-loop-field : goal.invariant-loop-field
invariant-loop-field l = l.into ≡ just_read (head_at l.front l.head (take l.field-index l.fields))
