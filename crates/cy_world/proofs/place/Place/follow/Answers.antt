-- What is left to show of `Place::follow`.
use Rattle.std.proofs.Common.{◌≡◌, false, None, ap, sym, ◌∙◌, subst, arith, length, inl, inr}
use Rattle.cy_proc.specs.Processors.{is_open_at, is_over_at}
use Rattle.cy_world.specs.Lives.{SettlesEach}
use Rattle.cy_world.specs.Places.{PlaceParts}
use Rattle.cy_world.proofs.Lives.{follows, idle_turn, turn_follows}
use Rattle.cy_world.proofs.Places.{not_some, seated_reaches, seated_turn, some_closed, turned_place}
use Rattle.cy_world.proofs.Visits.{counts_same, counts_then, same_visits, seated_turn_heads}
use Rattle.cy_world.proofs.place.Place.follow.Goals as goal
use Rattle.cy_world.proofs.place.Place.follow.Goals.{then-not-is_turn-via-then-not-is_turn, then-not-is_turn-via-else-not-is_turn+then-len-ended, then-not-is_turn-via-else-not-is_turn+else-len-ended+then-is_some}

pub returns-then-not-is_turn-clause-follows : goal.returns-then-not-is_turn-clause-follows
returns-then-not-is_turn-clause-follows c =
    let kept = c.requires.kept in
    let kept_now = c.settle.ensures.keeps.kept kept in
    follows c.args.rules.now _ c.args.told c.args.self.now.live c.settle.new.self.live c.requires.turn c.settle.ensures.settles
    (elim c.then-not-is_turn.branch [
      | then-not-is_turn-via-then-not-is_turn w ↦ inl (sym c.is_turn.ensures ∙ w.if-not-is_turn.true)
      | then-not-is_turn-via-else-not-is_turn+then-len-ended w ↦ inr (λ T s. idle_turn c.args.rules.now T c.args.self.now.live c.settle.new.self.live kept kept_now s c.settle.ensures.settles
          (inl (λ e. omega (arith, e, c.len-ended.ensures, w.if-len-ended.true, w.len.ensures, ap (λ (k : PlaceParts). length k.live.charts) c.self.view_is, ap (λ (k : PlaceParts). length k.live.charts) c.self-2.view_is))))
      | then-not-is_turn-via-else-not-is_turn+else-len-ended+then-is_some w ↦ inr (λ T s. idle_turn c.args.rules.now T c.args.self.now.live c.settle.new.self.live kept kept_now s c.settle.ensures.settles
          (inr (ap (λ (k : PlaceParts). is_open_at k.live.processor.stage) (sym c.self-2.view_is) ∙ some_closed c.self-2.inside.idle c.self-2.inside.limits c.self-2.inside.slot (sym w.is_some.ensures ∙ w.if-is_some.true) c.self-2.invariant.seated)))
    ])

none_here : (c : goal.After-run) → c.self-2.inside.idle ≡ None
none_here c = not_some c.self-2.inside.idle (sym c.is_some.ensures ∙ c.if-is_some.false)

kept_here : (c : goal.After-run) → is_over_at c.self-2.inside.slot.processor.stage ≡ false
kept_here c = ap (λ (k : PlaceParts). is_over_at k.live.processor.stage) c.self-2.view_is ∙ c.settle.ensures.keeps.kept c.requires.kept

pub invariant_of-self : goal.invariant_of-self
invariant_of-self c =
    turned_place c.self-2.inside.limits c.self-2.inside.slot c.run.new.self c.self-2.inside.charts.items c.tenancy.result c.run.result c.run.ensures.all_else c.tenancy.ensures (kept_here c) c.run.ensures.moment
    c.self-2.inside.spare c.self-2.inside.idle _ (none_here c) c.self-2.invariant c.run.ensures.stays c.run.ensures.answers

pub returns-clause-follows : goal.returns-clause-follows
returns-clause-follows c =
    turn_follows c.args.rules.now _ c.args.told c.args.self.now.live _ c.run.result (sym c.is_turn.ensures ∙ c.if-not-is_turn.false) (λ T s.
    seated_turn c.self-2.inside.limits c.self-2.inside.slot c.run.new.self c.self-2.inside.charts.items c.tenancy.result c.run.result c.run.ensures.all_else c.tenancy.ensures (kept_here c) c.run.ensures.moment
    c.args.rules.now c.self-2.inside.idle c.args.self.now.live (none_here c) c.self-2.invariant.seated c.requires.kept
    (subst (λ (k : PlaceParts). SettlesEach c.args.rules.now c.args.self.now.live k.live) (sym c.self-2.view_is) c.settle.ensures.settles)
    (omega (arith, c.len-ended.ensures, c.if-len-ended.false, c.len.ensures, ap (λ (k : PlaceParts). length k.live.charts) c.self.view_is))
    (ap (λ (k : PlaceParts). k.live.limits) c.self-2.view_is ∙ c.settle.ensures.keeps.limits)
    (ap (λ (k : PlaceParts). k.live.line.moment) c.self-2.view_is ∙ c.settle.ensures.keeps.moment)
    c.run.ensures.answers T s)

pub returns-clause-counts : goal.returns-clause-counts
returns-clause-counts c =
    let here = seated_reaches c.self-2.inside.idle c.self-2.inside.limits c.self-2.inside.slot c.tenancy.result (none_here c) c.self-2.invariant.seated (kept_here c) c.tenancy.ensures in
    counts_then c.args.self.now c.settle.new.self _ c.settle.ensures.counts
    (rw (← c.self-2.view_is) (counts_same _ _ (same_visits c.self-2.inside.slot c.run.new.self c.run.ensures.all_else)
    (seated_turn_heads c.self-2.inside.limits c.self-2.inside.slot c.run.new.self c.self-2.inside.idle c.self-2.inside.idle c.self-2.inside.charts.items (none_here c) (none_here c) c.self-2.invariant.alive
    c.run.result (c.run.ensures.answers here))))
