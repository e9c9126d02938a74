-- What is left to show of `Place::is_due`.
use Rattle.std.proofs.Common.{◌≡◌, not, ◌&&◌, Option, None, Some, refl, ap, sym, ◌∙◌, subst, arith}
use Rattle.cy_model.specs.Settling.{rested}
use Rattle.cy_proc.specs.LineChanges.{is_due, work_of}
use Rattle.cy_proc.specs.Processors.{is_open_at, is_over_at}
use Rattle.cy_world.specs.Places.{Lives, PlaceParts, line_at, stands_due}
use Rattle.cy_world.specs.declared.place.Idle.{Idle}
use Rattle.cy_world.proofs.Lives.{open_lives}
use Rattle.cy_world.proofs.Places.{due_is, idle_closed, idle_place, idle_rests, live_of, seated_open, work_at_rest}
use Rattle.cy_world.proofs.Visits.{counts_same, idle_rest_heads}
use Rattle.cy_world.proofs.place.Place.is_due.Goals as goal

pub returns-in_default-clause-rests : goal.returns-in_default-clause-rests
returns-in_default-clause-rests c =
    let none : c.self.inside.idle ≡ None = sym c.take.ensures.value ∙ c.in_default.is in
    let kept = ap (λ (p : PlaceParts). is_over_at p.live.processor.stage) c.self.view_is ∙ c.requires.kept in
    rw (← c.self.view_is) (λ T s.
    subst (λ (o : Option Idle). Lives (rested c.self.inside.limits (line_at c.self.inside.idle c.self.inside.slot).moment T) (live_of c.self.inside.limits c.self.inside.slot o c.self.inside.charts.items)) (none ∙ sym c.take.ensures.after)
    (open_lives T (live_of c.self.inside.limits c.self.inside.slot c.self.inside.idle c.self.inside.charts.items) s (seated_open c.self.inside.idle c.self.inside.limits c.self.inside.slot none c.self.invariant.seated kept)))

pub invariant_of-self-2 : goal.invariant_of-self-2
invariant_of-self-2 c =
    let is : c.self.inside.idle ≡ Some c.in-Some.idle = sym c.take.ensures.value ∙ c.in-Some.is in
    idle_place c.self.inside.limits c.self.inside.slot c.self.inside.spare c.self.inside.idle c.in-Some.idle (record { line = c.settle-standing.new.self; guest = c.in-Some.idle.guest }) c.self.inside.charts.items _
    is c.self.invariant
    (_, idle_rests c.self.inside.limits c.self.inside.slot c.self.inside.idle c.in-Some.idle c.self.inside.charts.items c.settle-standing.new.self is c.settle-standing.ensures.rests c.self.invariant.alive.0 c.self.invariant.alive.1)

pub returns-clause-rests : goal.returns-clause-rests
returns-clause-rests c =
    rw (← c.self.view_is) (λ T s.
    idle_rests c.self.inside.limits c.self.inside.slot c.self.inside.idle c.in-Some.idle c.self.inside.charts.items c.settle-standing.new.self (sym c.take.ensures.value ∙ c.in-Some.is) c.settle-standing.ensures.rests T s)

pub returns-clause-due : goal.returns-clause-due
returns-clause-due c =
    let limits = c.self.inside.limits in
    let line = c.settle-standing.new.self in
    let closed = idle_closed c.self.inside.idle c.in-Some.idle limits c.self.inside.slot (sym c.take.ensures.value ∙ c.in-Some.is) c.self.invariant.seated in
    c.stands_due.ensures
    ∙ ap stands_due c.settle-standing.ensures.standing
    ∙ due_is limits line
    ∙ sym (ap (λ v. not v && is_due limits line) closed)
    ∙ ap (λ (p : PlaceParts). not (is_open_at c.self.inside.slot.processor.stage) && is_due p.live.limits line) c.self.view_is

pub returns-clause-line : goal.returns-clause-line
returns-clause-line c =
    let is : c.self.inside.idle ≡ Some c.in-Some.idle = sym c.take.ensures.value ∙ c.in-Some.is in
    rw (← c.self.view_is) (record {
      work = omega (
        arith,
        ap work_of c.settle-standing.ensures.parts,
        work_at_rest c.self.inside.limits c.in-Some.idle.line,
        ap (λ (o : Option Idle). work_of (line_at o c.self.inside.slot)) is,
      );
      moment = c.settle-standing.ensures.moment ∙ sym (ap (λ (o : Option Idle). (line_at o c.self.inside.slot).moment) is);
    })

pub returns-clause-counts : goal.returns-clause-counts
returns-clause-counts c =
    rw (← c.self.view_is) (counts_same _ _ refl
    (idle_rest_heads c.self.inside.limits c.self.inside.slot c.self.inside.idle c.in-Some.idle c.self.inside.charts.items c.settle-standing.new.self (sym c.take.ensures.value ∙ c.in-Some.is) c.self.invariant.alive _
    c.settle-standing.ensures.rests))
