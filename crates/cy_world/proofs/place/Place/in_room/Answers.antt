-- What is left to show of `Place::in_room`.
use Rattle.std.proofs.Common.{Bool, Option, ap, sym, ◌∙◌, arith, length, if◌then◌else◌}
use Rattle.cy_proc.specs.LineChanges.{room_of}
use Rattle.cy_proc.specs.Processors.{is_over_at}
use Rattle.cy_slot.specs.Slots.{line_in}
use Rattle.cy_world.specs.Places.{PlaceParts, line_at}
use Rattle.cy_world.specs.declared.place.Idle.{Idle}
use Rattle.cy_world.proofs.Places.{seated_reaches}
use Rattle.cy_world.proofs.place.Place.in_room.Goals as goal

pub returns-in-None-clause-held : goal.returns-in-None-clause-held
returns-in-None-clause-held c =
    let kept = ap (λ (p : PlaceParts). is_over_at p.live.processor.stage) c.self.view_is ∙ c.requires.kept in
    let here = seated_reaches c.self.inside.idle c.self.inside.limits c.self.inside.slot c.tenancy.result c.in-None.is c.self.invariant.seated kept c.tenancy.ensures in
    omega (
      arith,
      c.in_room-in-None.ensures.held here,
      ap (λ (o : Option Idle). length (line_at o c.self.inside.slot).unread) c.in-None.is,
      ap (λ (p : PlaceParts). length p.live.line.unread) c.self.view_is,
    )

pub returns-in-None-clause-room : goal.returns-in-None-clause-room
returns-in-None-clause-room c =
    let kept = ap (λ (p : PlaceParts). is_over_at p.live.processor.stage) c.self.view_is ∙ c.requires.kept in
    let here = seated_reaches c.self.inside.idle c.self.inside.limits c.self.inside.slot c.tenancy.result c.in-None.is c.self.invariant.seated kept c.tenancy.ensures in
    c.in_room-in-None.ensures.room
    ∙ ap (λ (v : Bool). if v then room_of (line_in c.self.inside.slot) else 0) here
    ∙ sym (ap (λ (o : Option Idle). room_of (line_at o c.self.inside.slot)) c.in-None.is)
    ∙ ap (λ (p : PlaceParts). room_of p.live.line) c.self.view_is
