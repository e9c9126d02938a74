-- What is left decides.
use Rattle.std.proofs.Common.{◌≡◌, drop}
use Rattle.cy_event.specs.Heads.{is_escaped}
use Rattle.cy_head.proofs.hosts.is_escaped_right.Given as goal

abbrev pub invariant-loop-i : goal.invariant-loop-i
invariant-loop-i l = is_escaped l.name ≡ is_escaped (drop l.i l.name)
