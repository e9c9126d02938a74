-- The values of Host are the one that was seen, and those of the fields that are left.
use Rattle.cy_head.proofs.HeadReads.{HostsSeen}
use Rattle.cy_head.proofs.hosts.has_right_host.Given as goal

abbrev pub invariant-loop-field : goal.invariant-loop-field
invariant-loop-field l = HostsSeen l.front l.fields l.field-index l.host
