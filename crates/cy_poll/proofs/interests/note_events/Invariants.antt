-- What the loops of `note_events` keep.
use Rattle.std.proofs.Common.{take}
use Rattle.cy_poll.proofs.Noted.{NotedSoFar}
use Rattle.cy_poll.proofs.interests.note_events.Given as goal

abbrev pub invariant-loop-event : goal.invariant-loop-event
invariant-loop-event l = NotedSoFar l.initial.notes (take l.event-index l.events) l.initial.into l.notes l.marks l.into l.count
