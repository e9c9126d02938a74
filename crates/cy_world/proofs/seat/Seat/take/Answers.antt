-- What is left to show of `Seat::take`: what an entry writes stands behind what was written.
use Rattle.std.proofs.Common.{◌≡◌, ℕ, List, ap, sym, ◌∙◌, subst}
use Rattle.cy_model.specs.Replies.{replied_in}
use Rattle.cy_world.specs.Answered.{Answers, Keeps, Parts, SeatParts, entry_by, parts_with}
use Rattle.cy_world.specs.Places.{PlaceParts}
use Rattle.cy_world.proofs.Keeping.{step_followed, step_refused}
use Rattle.cy_world.proofs.seat.Seat.take.Goals as goal

pub returns-then-is_refusal-clause-answers : goal.returns-then-is_refusal-clause-answers
returns-then-is_refusal-clause-answers c = λ T keeps here.
    let s = c.args.terms.now in
    let was : c.self-2.inside.place.live ≡ c.args.self.now.place.live =
    ap (λ (k : SeatParts). k.place.live) c.self-2.view_is ∙ ap (λ (p : PlaceParts). p.live) c.in_ok-written.ensures.place
    ∙ ap (λ (p : PlaceParts). p.live) c.in_ok-reserve.ensures.same ∙ ap (λ (k : SeatParts). k.place.live) c.self.view_is in
    let wrote : c.in_ok-written.written.items ≡ c.args.self.now.written = c.in_ok-written.ensures.taken ∙ ap (λ (k : SeatParts). k.written) c.self.view_is in
    let p : Parts = record { live = c.self-2.inside.place.live; written = c.in_ok-written.written.items } in
    let keeps_here : Keeps s T p = subst (Keeps s T) (λ i. record { live = (sym was) i; written = (sym wrote) i }) keeps in
    subst (λ (u : List ℕ). Answers s T (entry_by c.args.step.now) (replied_in c.tell-first.result.1 c.tell-first.new.into) (record { live = c.tell-first.new.self.live; written = u })) (sym c.of.ensures)
    (step_refused s c.args.step.now c.tell-first.result.1 c.tell-first.new.into T p c.tell-first.new.self.live c.requires.own keeps_here here (sym c.is_refusal.ensures ∙ c.if-is_refusal.true)
    c.tell-first.ensures.tells c.tell-first.ensures.keeps)

pub returns-clause-answers : goal.returns-clause-answers
returns-clause-answers c = λ T keeps here.
    let s = c.args.terms.now in
    let was : c.self-2.inside.place.live ≡ c.args.self.now.place.live =
    ap (λ (k : SeatParts). k.place.live) c.self-2.view_is ∙ ap (λ (p : PlaceParts). p.live) c.in_ok-written.ensures.place
    ∙ ap (λ (p : PlaceParts). p.live) c.in_ok-reserve.ensures.same ∙ ap (λ (k : SeatParts). k.place.live) c.self.view_is in
    let wrote : c.in_ok-written.written.items ≡ c.args.self.now.written = c.in_ok-written.ensures.taken ∙ ap (λ (k : SeatParts). k.written) c.self.view_is in
    let p : Parts = record { live = c.self-2.inside.place.live; written = c.in_ok-written.written.items } in
    let keeps_here : Keeps s T p = subst (Keeps s T) (λ i. record { live = (sym was) i; written = (sym wrote) i }) keeps in
    subst (λ (q : PlaceParts). Answers s T (entry_by c.args.step.now) (replied_in c.follow-reply.result c.tell-first.new.into) (parts_with q c.of-2.result)) (sym c.push_unsent.ensures.same)
    (step_followed s c.args.step.now c.tell-first.result.1 c.follow-reply.result c.tell-first.new.into c.tell-first.result.0 T p c.tell-first.new.self.live c.follow-reply.new.self.live c.of-2.result
    c.requires.own keeps_here here (sym c.is_refusal.ensures ∙ c.if-is_refusal.false) c.tell-first.ensures.tells c.tell-first.ensures.keeps c.follow-reply.ensures.follows c.follow-reply.ensures.keeps
    c.tell-first.ensures.first (c.of-2.ensures ∙ c.push_unsent.ensures.pushed))
