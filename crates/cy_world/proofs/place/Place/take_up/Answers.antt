-- What is left to show of `Place::take_up`.
use Rattle.std.proofs.Common.{◌+◌, length, Option, vec_capacity, refl, ap, sym, ◌∙◌, subst, arith}
use Rattle.cy_proc.specs.LineChanges.{is_due, work_of}
use Rattle.cy_world.specs.Lives.{SettlesOne}
use Rattle.cy_world.specs.Places.{LiveParts, PlaceParts, guest_who, heads_of, who_at}
use Rattle.cy_world.specs.declared.place.Idle.{Idle}
use Rattle.cy_world.proofs.Places.{live_of}
use Rattle.cy_world.proofs.TakingUp.{Enters, enters, room_less}
use Rattle.cy_world.proofs.Visits.{counts_one, one_head_more}
use Rattle.cy_world.proofs.place.Place.take_up.Goals as goal

facts_then : (c : goal.Then-is_over) → Enters c.args.rules.now c.self.inside.limits c.self.inside.slot c.open-done.new.self c.self.inside.spare c.self.inside.idle c.take.new.self c.self.inside.charts.items (vec_capacity c.self.inside.charts) (record { line = c.in-Some.field-0.line; share = c.in-Some-guest.field-0.share; number = c.in-Some-guest.field-0.number })
facts_then c =
    enters c.args.rules.now c.self.inside.limits c.self.inside.slot c.bind.new.self c.open-done.new.self c.self.inside.spare c.self.inside.idle c.take.new.self c.in-Some.field-0 c.self.inside.charts.items (vec_capacity c.self.inside.charts)
    (record { line = c.in-Some.field-0.line; share = c.in-Some-guest.field-0.share; number = c.in-Some-guest.field-0.number }) c.in-Bound.tenancy c.bind.result
    (sym c.take.ensures.value ∙ c.in-Some.is) refl c.take.ensures.after c.self.invariant c.bind.ensures.answer c.in-Bound.is c.bind.ensures.parts
    (ap (λ (p : LiveParts). is_due p.limits p.line) (ap (λ (p : PlaceParts). p.live) c.self.view_is ∙ c.renew_slot.ensures.live) ∙ c.requires.due)
    c.open-done.ensures.takes c.open-done.ensures.opened c.open-done.ensures.uncalled c.open-done.ensures.less c.open-done.ensures.moment c.open-done.ensures.all_else

facts_of : (c : goal.After-of) → Enters c.args.rules.now c.self.inside.limits c.self.inside.slot c.open-done.new.self c.self.inside.spare c.self.inside.idle c.take.new.self c.self.inside.charts.items (vec_capacity c.self.inside.charts) (record { line = c.in-Some.field-0.line; share = c.in-Some-guest.field-0.share; number = c.in-Some-guest.field-0.number })
facts_of c =
    enters c.args.rules.now c.self.inside.limits c.self.inside.slot c.bind.new.self c.open-done.new.self c.self.inside.spare c.self.inside.idle c.take.new.self c.in-Some.field-0 c.self.inside.charts.items (vec_capacity c.self.inside.charts)
    (record { line = c.in-Some.field-0.line; share = c.in-Some-guest.field-0.share; number = c.in-Some-guest.field-0.number }) c.in-Bound.tenancy c.bind.result
    (sym c.take.ensures.value ∙ c.in-Some.is) refl c.take.ensures.after c.self.invariant c.bind.ensures.answer c.in-Bound.is c.bind.ensures.parts
    (ap (λ (p : LiveParts). is_due p.limits p.line) (ap (λ (p : PlaceParts). p.live) c.self.view_is ∙ c.renew_slot.ensures.live) ∙ c.requires.due)
    c.open-done.ensures.takes c.open-done.ensures.opened c.open-done.ensures.uncalled c.open-done.ensures.less c.open-done.ensures.moment c.open-done.ensures.all_else

facts_else : (c : goal.Else-is_over) → Enters c.args.rules.now c.self.inside.limits c.self.inside.slot c.open-done.new.self c.self.inside.spare c.self.inside.idle c.take.new.self c.self.inside.charts.items (vec_capacity c.self.inside.charts) (record { line = c.in-Some.field-0.line; share = c.in-Some-guest.field-0.share; number = c.in-Some-guest.field-0.number })
facts_else c =
    enters c.args.rules.now c.self.inside.limits c.self.inside.slot c.bind.new.self c.open-done.new.self c.self.inside.spare c.self.inside.idle c.take.new.self c.in-Some.field-0 c.self.inside.charts.items (vec_capacity c.self.inside.charts)
    (record { line = c.in-Some.field-0.line; share = c.in-Some-guest.field-0.share; number = c.in-Some-guest.field-0.number }) c.in-Bound.tenancy c.bind.result
    (sym c.take.ensures.value ∙ c.in-Some.is) refl c.take.ensures.after c.self.invariant c.bind.ensures.answer c.in-Bound.is c.bind.ensures.parts
    (ap (λ (p : LiveParts). is_due p.limits p.line) (ap (λ (p : PlaceParts). p.live) c.self.view_is ∙ c.renew_slot.ensures.live) ∙ c.requires.due)
    c.open-done.ensures.takes c.open-done.ensures.opened c.open-done.ensures.uncalled c.open-done.ensures.less c.open-done.ensures.moment c.open-done.ensures.all_else

facts_end : (c : goal.After-finish-then-is_over) → Enters c.args.rules.now c.self.inside.limits c.self.inside.slot c.open-done.new.self c.self.inside.spare c.self.inside.idle c.take.new.self c.self.inside.charts.items (vec_capacity c.self.inside.charts) (record { line = c.in-Some.field-0.line; share = c.in-Some-guest.field-0.share; number = c.in-Some-guest.field-0.number })
facts_end c =
    enters c.args.rules.now c.self.inside.limits c.self.inside.slot c.bind.new.self c.open-done.new.self c.self.inside.spare c.self.inside.idle c.take.new.self c.in-Some.field-0 c.self.inside.charts.items (vec_capacity c.self.inside.charts)
    (record { line = c.in-Some.field-0.line; share = c.in-Some-guest.field-0.share; number = c.in-Some-guest.field-0.number }) c.in-Bound.tenancy c.bind.result
    (sym c.take.ensures.value ∙ c.in-Some.is) refl c.take.ensures.after c.self.invariant c.bind.ensures.answer c.in-Bound.is c.bind.ensures.parts
    (ap (λ (p : LiveParts). is_due p.limits p.line) (ap (λ (p : PlaceParts). p.live) c.self.view_is ∙ c.renew_slot.ensures.live) ∙ c.requires.due)
    c.open-done.ensures.takes c.open-done.ensures.opened c.open-done.ensures.uncalled c.open-done.ensures.less c.open-done.ensures.moment c.open-done.ensures.all_else

pub invariant_of-self : goal.invariant_of-self
invariant_of-self c = (facts_then c).place

pub finish-requires-clause-chart : goal.finish-requires-clause-chart
finish-requires-clause-chart c = c.of.ensures ∙ c.new.ensures.items ∙ sym (facts_of c).uncalled

pub invariant_of-self-else-is_over : goal.invariant_of-self-else-is_over
invariant_of-self-else-is_over c = (facts_else c).place

pub returns-then-is_over-clause-takes : goal.returns-then-is_over-clause-takes
returns-then-is_over-clause-takes c =
    subst (λ (p : LiveParts). SettlesOne c.args.rules.now p c.finish-then-is_over.new.self.live) (ap (λ (p : PlaceParts). p.live) c.self.view_is ∙ c.renew_slot.ensures.live)
    (λ T s. let w = (facts_end c).takes T s in record { trace = w.trace; taken = w.taken; lives = c.finish-then-is_over.ensures.lives _ w.lives })

pub returns-then-is_over-clause-room : goal.returns-then-is_over-clause-room
returns-then-is_over-clause-room c =
    let was = (ap (λ (p : PlaceParts). p.live) c.self.view_is ∙ c.renew_slot.ensures.live) in
    room_less c.args.self.now c.finish-then-is_over.new.self
    (omega (arith, c.finish-then-is_over.ensures.charts, ap (λ (p : LiveParts). length p.charts) was))
    (c.finish-then-is_over.ensures.room ∙ ap (λ (p : PlaceParts). p.chart_room) c.self.view_is ∙ c.renew_slot.ensures.room)
    (omega (arith, c.finish-then-is_over.ensures.tenants, (facts_end c).tenants, ap (λ (p : PlaceParts). p.tenants_left) c.self.view_is, c.renew_slot.ensures.tenants))
    (omega (arith, ap work_of c.finish-then-is_over.ensures.line, (facts_end c).less, ap (λ (p : LiveParts). work_of p.line) was))
    c.requires.room

pub returns-then-is_over-clause-less : goal.returns-then-is_over-clause-less
returns-then-is_over-clause-less c =
    omega (
      arith,
      ap work_of c.finish-then-is_over.ensures.line,
      (facts_end c).less,
      ap (λ (p : LiveParts). work_of p.line) (ap (λ (p : PlaceParts). p.live) c.self.view_is ∙ c.renew_slot.ensures.live),
    )

pub returns-else-is_over-clause-takes : goal.returns-else-is_over-clause-takes
returns-else-is_over-clause-takes c =
    subst (λ (p : LiveParts). SettlesOne c.args.rules.now p (live_of c.self.inside.limits c.open-done.new.self c.take.new.self c.self.inside.charts.items)) (ap (λ (p : PlaceParts). p.live) c.self.view_is ∙ c.renew_slot.ensures.live) (facts_else c).takes

pub returns-else-is_over-clause-keeps : goal.returns-else-is_over-clause-keeps
returns-else-is_over-clause-keeps c =
    let was = (ap (λ (p : PlaceParts). p.live) c.self.view_is ∙ c.renew_slot.ensures.live) in
    record {
      limits = ap (λ (p : LiveParts). p.limits) was;
      moment = (facts_else c).at ∙ ap (λ (p : LiveParts). p.line.moment) was;
      kept = λ k. sym c.is_over.ensures ∙ c.if-is_over.false;
    }

pub returns-else-is_over-clause-who : goal.returns-else-is_over-clause-who
returns-else-is_over-clause-who c =
    (facts_else c).who
    ∙ sym (
    ap (λ (o : Option Idle). who_at o c.self.inside.slot) (sym c.take.ensures.value ∙ c.in-Some.is)
    ∙ ap guest_who c.in-Some-guest.is
    )
    ∙ ap (λ (p : PlaceParts). p.who) c.self.view_is
    ∙ c.renew_slot.ensures.who

pub returns-else-is_over-clause-room : goal.returns-else-is_over-clause-room
returns-else-is_over-clause-room c =
    let was = (ap (λ (p : PlaceParts). p.live) c.self.view_is ∙ c.renew_slot.ensures.live) in
    room_less c.args.self.now _
    (omega (arith, ap (λ (p : LiveParts). length p.charts) was))
    (ap (λ (p : PlaceParts). p.chart_room) c.self.view_is ∙ c.renew_slot.ensures.room)
    (omega (arith, (facts_else c).tenants, ap (λ (p : PlaceParts). p.tenants_left) c.self.view_is, c.renew_slot.ensures.tenants))
    (omega (arith, (facts_else c).less, ap (λ (p : LiveParts). work_of p.line) was))
    c.requires.room

pub returns-else-is_over-clause-less : goal.returns-else-is_over-clause-less
returns-else-is_over-clause-less c =
    omega (
      arith,
      (facts_else c).less,
      ap (λ (p : LiveParts). work_of p.line) (ap (λ (p : PlaceParts). p.live) c.self.view_is ∙ c.renew_slot.ensures.live),
    )

pub returns-then-is_over-clause-counts : goal.returns-then-is_over-clause-counts
returns-then-is_over-clause-counts c =
    let e = facts_end c in
    counts_one c.args.self.now c.finish-then-is_over.new.self c.self.inside.slot
    (λ free. ap (λ (p : PlaceParts). p.slot) c.self.view_is ∙ c.renew_slot.ensures.slot free)
    (
    ap heads_of c.finish-then-is_over.ensures.line
    ∙ one_head_more c.args.rules.now _ _ c.self.invariant.alive e.takes
    ∙ ap (λ (p : PlaceParts). heads_of p.live.line + 1) c.self.view_is
    ∙ ap (λ (p : LiveParts). heads_of p.line + 1) c.renew_slot.ensures.live
    )
    (c.finish-then-is_over.ensures.visits ∙ e.visits)

pub returns-else-is_over-clause-counts : goal.returns-else-is_over-clause-counts
returns-else-is_over-clause-counts c =
    let e = facts_else c in
    counts_one c.args.self.now _ c.self.inside.slot
    (λ free. ap (λ (p : PlaceParts). p.slot) c.self.view_is ∙ c.renew_slot.ensures.slot free)
    (
    one_head_more c.args.rules.now _ _ c.self.invariant.alive e.takes
    ∙ ap (λ (p : PlaceParts). heads_of p.live.line + 1) c.self.view_is
    ∙ ap (λ (p : LiveParts). heads_of p.line + 1) c.renew_slot.ensures.live
    )
    e.visits
