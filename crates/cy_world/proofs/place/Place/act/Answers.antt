-- What is left to show of `Place::act`.
use Rattle.std.proofs.Common.{refl, ap, sym, ◌∙◌}
use Rattle.cy_proc.specs.Processors.{is_over_at}
use Rattle.cy_world.specs.Places.{PlaceParts, heads_of}
use Rattle.cy_world.proofs.Places.{acted, acted_place, not_some, seated_reaches}
use Rattle.cy_world.proofs.Visits.{counts_same, same_visits, seated_act_heads}
use Rattle.cy_world.proofs.place.Place.act.Goals as goal

pub invariant_of-self : goal.invariant_of-self
invariant_of-self c =
    let kept = ap (λ (p : PlaceParts). is_over_at p.live.processor.stage) c.self.view_is ∙ c.requires.kept in
    acted_place c.self.inside.limits c.self.inside.slot c.act-reply.new.self c.self.inside.charts.items c.tenancy-tenancy.result c.args.act.now c.args.bytes.now _ c.act-reply.result c.act-reply.ensures.all_else
    c.tenancy-tenancy.ensures kept c.act-reply.ensures.moment c.act-reply.ensures.answers c.self.inside.spare c.self.inside.idle _
    (not_some c.self.inside.idle (sym c.is_some.ensures ∙ c.if-is_some.false)) c.self.invariant c.act-reply.ensures.opened

pub invariant_of-self-else-is_over : goal.invariant_of-self-else-is_over
invariant_of-self-else-is_over c =
    let kept = ap (λ (p : PlaceParts). is_over_at p.live.processor.stage) c.self.view_is ∙ c.requires.kept in
    acted_place c.self.inside.limits c.self.inside.slot c.act-reply.new.self c.self.inside.charts.items c.tenancy-tenancy.result c.args.act.now c.args.bytes.now _ c.act-reply.result c.act-reply.ensures.all_else
    c.tenancy-tenancy.ensures kept c.act-reply.ensures.moment c.act-reply.ensures.answers c.self.inside.spare c.self.inside.idle _
    (not_some c.self.inside.idle (sym c.is_some.ensures ∙ c.if-is_some.false)) c.self.invariant c.act-reply.ensures.opened

-- where the request has ended, its chart was kept, and its connection left the slot
pub returns-then-is_over-clause-answers : goal.returns-then-is_over-clause-answers
returns-then-is_over-clause-answers c =
    let kept = ap (λ (p : PlaceParts). is_over_at p.live.processor.stage) c.self.view_is ∙ c.requires.kept in
    rw (← c.self.view_is) (acted c.self.inside.limits c.self.inside.slot c.act-reply.new.self c.self.inside.charts.items c.tenancy-tenancy.result c.args.act.now c.args.bytes.now _ c.act-reply.result c.act-reply.ensures.all_else
    c.tenancy-tenancy.ensures kept c.act-reply.ensures.moment c.act-reply.ensures.answers c.self.inside.idle c.finish.new.self.live
    (not_some c.self.inside.idle (sym c.is_some.ensures ∙ c.if-is_some.false)) c.self.invariant.seated
    (record { lives = c.finish.ensures.lives; limits = c.finish.ensures.limits; line = c.finish.ensures.line }))

pub returns-then-is_over-clause-counts : goal.returns-then-is_over-clause-counts
returns-then-is_over-clause-counts c =
    let none = not_some c.self.inside.idle (sym c.is_some.ensures ∙ c.if-is_some.false) in
    let kept = ap (λ (p : PlaceParts). is_over_at p.live.processor.stage) c.self.view_is ∙ c.requires.kept in
    let here = seated_reaches c.self.inside.idle c.self.inside.limits c.self.inside.slot c.tenancy-tenancy.result none c.self.invariant.seated kept c.tenancy-tenancy.ensures in
    rw (← c.self.view_is) (counts_same _ _ (c.finish.ensures.visits ∙ same_visits c.self.inside.slot c.act-reply.new.self c.act-reply.ensures.all_else)
    (ap heads_of c.finish.ensures.line
    ∙ seated_act_heads c.self.inside.limits c.self.inside.slot c.act-reply.new.self c.self.inside.idle c.self.inside.idle c.self.inside.charts.items none none c.self.invariant.alive
    c.args.act.now c.args.bytes.now _ c.act-reply.result (c.act-reply.ensures.answers here)))

pub returns-else-is_over-clause-answers : goal.returns-else-is_over-clause-answers
returns-else-is_over-clause-answers c =
    let kept = ap (λ (p : PlaceParts). is_over_at p.live.processor.stage) c.self.view_is ∙ c.requires.kept in
    rw (← c.self.view_is) (acted c.self.inside.limits c.self.inside.slot c.act-reply.new.self c.self.inside.charts.items c.tenancy-tenancy.result c.args.act.now c.args.bytes.now _ c.act-reply.result c.act-reply.ensures.all_else
    c.tenancy-tenancy.ensures kept c.act-reply.ensures.moment c.act-reply.ensures.answers c.self.inside.idle _
    (not_some c.self.inside.idle (sym c.is_some.ensures ∙ c.if-is_some.false)) c.self.invariant.seated
    (record { lives = λ T s. s; limits = refl; line = refl }))

pub returns-else-is_over-clause-counts : goal.returns-else-is_over-clause-counts
returns-else-is_over-clause-counts c =
    let none = not_some c.self.inside.idle (sym c.is_some.ensures ∙ c.if-is_some.false) in
    let kept = ap (λ (p : PlaceParts). is_over_at p.live.processor.stage) c.self.view_is ∙ c.requires.kept in
    let here = seated_reaches c.self.inside.idle c.self.inside.limits c.self.inside.slot c.tenancy-tenancy.result none c.self.invariant.seated kept c.tenancy-tenancy.ensures in
    rw (← c.self.view_is) (counts_same _ _ (same_visits c.self.inside.slot c.act-reply.new.self c.act-reply.ensures.all_else)
    (seated_act_heads c.self.inside.limits c.self.inside.slot c.act-reply.new.self c.self.inside.idle c.self.inside.idle c.self.inside.charts.items none none c.self.invariant.alive
    c.args.act.now c.args.bytes.now _ c.act-reply.result (c.act-reply.ensures.answers here)))
