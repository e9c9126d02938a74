-- What is kept of a request when its target was read.
use Rattle.std.specs.Prelude.{[], Option, Some, None}
use Rattle.cy_event.specs.RequestHeads.{RequestParts}
use Rattle.cy_event.specs.Targets.{PathAndQuery}

-- the path and the query that the target names, and all else as it was; a bad target names nothing
abbrev pub with_target : Option PathAndQuery → RequestParts → RequestParts
with_target None parts = record parts { path = []; query = None }
with_target (Some named) parts = record parts { path = named.path; query = named.query }
