-- What is left to show of `Place::unsent_len`.
use Rattle.std.proofs.Common.{Option, ap, sym, ◌∙◌, length, [], Bool, if◌then◌else◌}
use Rattle.cy_proc.specs.Processors.{is_over_at}
use Rattle.cy_slot.specs.Slots.{line_in}
use Rattle.cy_world.specs.Places.{PlaceParts, line_at}
use Rattle.cy_world.specs.declared.place.Idle.{Idle}
use Rattle.cy_world.proofs.Places.{seated_reaches}
use Rattle.cy_world.proofs.place.Place.unsent_len.Goals as goal

pub returns-in-None-clause-count : goal.returns-in-None-clause-count
returns-in-None-clause-count c =
    let kept = ap (λ (p : PlaceParts). is_over_at p.live.processor.stage) c.self.view_is ∙ c.requires.kept in
    let here = seated_reaches c.self.inside.idle c.self.inside.limits c.self.inside.slot c.tenancy.result c.in-None.is c.self.invariant.seated kept c.tenancy.ensures in
    c.waiting_len.ensures.count
    ∙ ap (λ (v : Bool). length (if v then (line_in c.self.inside.slot).unsent else [])) here
    ∙ sym (ap (λ (o : Option Idle). length (line_at o c.self.inside.slot).unsent) c.in-None.is)
    ∙ ap (λ (p : PlaceParts). length p.live.line.unsent) c.self.view_is

pub returns-in-None-clause-within : goal.returns-in-None-clause-within
returns-in-None-clause-within c = c.waiting_len.ensures.within
