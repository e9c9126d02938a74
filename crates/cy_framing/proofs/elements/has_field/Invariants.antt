-- What is left decides.
use Rattle.std.proofs.Common.{◌≡◌, drop}
use Rattle.std.specs.List.{list_any}
use Rattle.cy_event.specs.Heads.{is_named}
use Rattle.cy_framing.proofs.elements.has_field.Given as goal

abbrev pub invariant-loop-i : goal.invariant-loop-i
invariant-loop-i l = list_any (is_named l.name) l.head.head.fields ≡ list_any (is_named l.name) (drop l.i l.head.head.fields)
