-- What is left to show of `Place::event`.
use Rattle.std.proofs.Common.{◌≡◌, false, ℕ, Option, None, Some, refl, ap, sym, ◌∙◌, arith, length, length-take, take}
use Rattle.std.proofs.lemmas.List.{take_min}
use Rattle.cy_proc.specs.LineChanges.{at_moment, work_of}
use Rattle.cy_proc.specs.Processors.{ProcessorParts, is_free_at, is_over_at}
use Rattle.cy_rings.specs.declared.kit.TheConstants.{IN_CAPACITY}
use Rattle.cy_world.specs.Places.{PlaceParts, line_at}
use Rattle.cy_world.specs.declared.place.Idle.{Idle}
use Rattle.cy_world.proofs.Cutting.{cut, cut_event}
use Rattle.cy_world.proofs.Places.{event_room, idle_event, idle_place, seated_event, seated_place, seated_reaches, seated_taken, told_work}
use Rattle.cy_world.proofs.Visits.{counts_same, idle_told_heads, same_visits, seated_event_heads}
use Rattle.cy_world.proofs.place.Place.event.Goals as goal

-- between two entries no chart waits to be kept
kept_here : (c : goal.After-waiting_len) → is_over_at c.self.inside.slot.processor.stage ≡ false
kept_here c = ap (λ (p : PlaceParts). is_over_at p.live.processor.stage) c.self.view_is ∙ c.requires.kept

none_here : (c : goal.After-waiting_len) → c.self.inside.idle ≡ None
none_here c = sym c.take.ensures.value ∙ c.in_default.is

cut_here : (c : goal.After-waiting_len) → take c.min.result c.args.bytes.now ≡ cut c.args.bytes.now
cut_here c = ap (λ (n : ℕ). take n c.args.bytes.now) c.min.ensures ∙ take_min IN_CAPACITY c.args.bytes.now

pub invariant_of-self : goal.invariant_of-self
invariant_of-self c =
    let place = c.self.invariant in
    seated_place c.self.inside.limits c.self.inside.slot c.event-reply.new.self c.self.inside.spare c.self.inside.idle c.take.new.self c.self.inside.charts.items c.self.inside.charts.items _ _
    (none_here c) c.take.ensures.after place c.event-reply.ensures.all_else
    (ap (λ (q : ProcessorParts). is_free_at q.stage) c.event-reply.ensures.same ∙ seated_taken c.self.inside.idle c.self.inside.limits c.self.inside.slot (none_here c) place.seated) (
      _,
      (seated_event c.self.inside.limits c.self.inside.slot c.event-reply.new.self c.self.inside.idle c.take.new.self c.self.inside.charts.items c.tenancy-tenancy.result c.args.event _ c.event-reply.result
          (none_here c) c.take.ensures.after place.seated (kept_here c) c.tenancy-tenancy.ensures c.event-reply.ensures.answers c.event-reply.ensures.moment c.event-reply.ensures.all_else place.alive.0 place.alive.1).lives,
    )

pub returns-in_default-clause-answers : goal.returns-in_default-clause-answers
returns-in_default-clause-answers c =
    rw (← c.self.view_is) (cut_event c.args.event c.args.bytes.now _ _ c.event-reply.result _ (cut_here c) (λ T s.
    seated_event c.self.inside.limits c.self.inside.slot c.event-reply.new.self c.self.inside.idle c.take.new.self c.self.inside.charts.items c.tenancy-tenancy.result c.args.event _ c.event-reply.result
    (none_here c) c.take.ensures.after c.self.invariant.seated (kept_here c) c.tenancy-tenancy.ensures c.event-reply.ensures.answers c.event-reply.ensures.moment c.event-reply.ensures.all_else T s))

pub returns-in_default-clause-counts : goal.returns-in_default-clause-counts
returns-in_default-clause-counts c =
    let here = seated_reaches c.self.inside.idle c.self.inside.limits c.self.inside.slot c.tenancy-tenancy.result (none_here c) c.self.invariant.seated (kept_here c) c.tenancy-tenancy.ensures in
    rw (← c.self.view_is) (counts_same _ _ (same_visits c.self.inside.slot c.event-reply.new.self c.event-reply.ensures.all_else)
    (seated_event_heads c.self.inside.limits c.self.inside.slot c.event-reply.new.self c.self.inside.idle c.take.new.self c.self.inside.charts.items (none_here c) c.take.ensures.after c.self.invariant.alive
    c.args.event _ c.event-reply.result (c.event-reply.ensures.answers here)))

some_here : (c : goal.Joined-self) → c.self.inside.idle ≡ Some c.in-Some.idle
some_here c = sym c.take.ensures.value ∙ c.in-Some.is

pub invariant_of-self-2 : goal.invariant_of-self-2
invariant_of-self-2 c =
    idle_place c.self.inside.limits c.self.inside.slot c.self.inside.spare c.self.inside.idle c.in-Some.idle (record { line = c.event-reply-2.new.self; guest = c.in-Some.idle.guest }) c.self.inside.charts.items _
    (some_here c) c.self.invariant (
      _,
      (idle_event c.self.inside.limits c.self.inside.slot c.self.inside.idle c.in-Some.idle c.self.inside.charts.items c.event-reply-2.new.self c.args.event _ c.event-reply-2.result
          (some_here c) c.event-reply-2.ensures.moment c.event-reply-2.ensures.answers c.self.invariant.alive.0 c.self.invariant.alive.1).lives,
    )

pub returns-clause-answers : goal.returns-clause-answers
returns-clause-answers c =
    rw (← c.self.view_is) (cut_event c.args.event c.args.bytes.now _ _ c.event-reply-2.result _
    (ap (λ (n : ℕ). take n c.args.bytes.now) c.min.ensures ∙ take_min IN_CAPACITY c.args.bytes.now) (λ T s.
    idle_event c.self.inside.limits c.self.inside.slot c.self.inside.idle c.in-Some.idle c.self.inside.charts.items c.event-reply-2.new.self c.args.event _ c.event-reply-2.result
    (some_here c) c.event-reply-2.ensures.moment c.event-reply-2.ensures.answers T s))

pub returns-clause-counts : goal.returns-clause-counts
returns-clause-counts c =
    rw (← c.self.view_is) (counts_same _ _ refl
    (idle_told_heads c.self.inside.limits c.self.inside.slot c.self.inside.idle c.in-Some.idle c.self.inside.charts.items c.event-reply-2.new.self (some_here c) c.self.invariant.alive _ c.args.event _ c.event-reply-2.result c.event-reply-2.ensures.answers))

pub returns-clause-room : goal.returns-clause-room
returns-clause-room c =
    event_room c.args.self.now _ (length c.args.bytes.now)
    (ap (λ (p : PlaceParts). p.live.charts) c.self.view_is)
    (ap (λ (p : PlaceParts). p.chart_room) c.self.view_is)
    (ap (λ (p : PlaceParts). p.tenants_left) c.self.view_is)
    (omega (
      arith,
      ap work_of c.event-reply-2.ensures.parts,
      told_work c.self.inside.limits c.args.event (take c.min.result c.args.bytes.now) (at_moment 0 c.in-Some.idle.line),
      length-take c.min.result c.args.bytes.now,
      c.min.ensures,
      ap (λ (o : Option Idle). work_of (line_at o c.self.inside.slot)) (some_here c),
      ap (λ (p : PlaceParts). work_of p.live.line) c.self.view_is,
    ))
    c.requires.room
