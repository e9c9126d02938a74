-- What is left to show of `World::push_connection`.
use Rattle.std.proofs.Common.{◌≡◌, length, get_or, Some, ap, ◌∙◌, subst, arith}
use Rattle.std.proofs.lemmas.Result.{on_ok_weaker}
use Rattle.cy_world.specs.Worlds.{IsWorld, WorldParts, find_in}
use Rattle.cy_world.specs.declared.world.Admitted.{Admitted}
use Rattle.cy_world.specs.declared.world.Admitted.TheVariants.{Seated, Gone}
use Rattle.cy_world.proofs.Reporting.{gone_text, place_known, seated_text}
use Rattle.cy_world.proofs.world.World.push_connection.Goals as goal

pub index-requires : goal.index-requires
index-requires c =
    let p = c.args.self.now in
    let place = c.in-Seated.place in
    let booked : find_in c.args.number p.book ≡ Some (Seated place) = c.requires.known ∙ ap (λ (a : Admitted). Some a) c.in-Seated.is in
    let there = place_known p c.args.number place (subst IsWorld c.self.view_is c.self.invariant) booked in
    omega (arith, there.within, ap (λ (q : WorldParts). length q.seats) c.self.view_is)

pub push_seat-requires : goal.push_seat-requires
push_seat-requires c =
    let p = c.args.self.now in
    let place = c.in-Seated.place in
    let seat = c.index.result.now in
    let booked : find_in c.args.number p.book ≡ Some (Seated place) = c.requires.known ∙ ap (λ (a : Admitted). Some a) c.in-Seated.is in
    let there = place_known p c.args.number place (subst IsWorld c.self.view_is c.self.invariant) booked in
    record { kept = there.kept seat (c.index.ensures ∙ ap (λ (q : WorldParts). get_or q.seats place seat) c.self.view_is) }

pub returns-in-Seated : goal.returns-in-Seated
returns-in-Seated c =
    let p = c.args.self.now in
    let place = c.in-Seated.place in
    let seat = c.index.result.now in
    let booked : find_in c.args.number p.book ≡ Some (Seated place) = c.requires.known ∙ ap (λ (a : Admitted). Some a) c.in-Seated.is in
    on_ok_weaker c.push_seat.result
    (λ told w stands.
    seated_text w p c.args.number place seat c.args.text.now.items c.push_seat.new.text.items stands booked
    (c.index.ensures ∙ ap (λ (q : WorldParts). get_or q.seats place seat) c.self.view_is) told)
    c.push_seat.ensures

pub returns-in-Gone : goal.returns-in-Gone
returns-in-Gone c =
    let booked : find_in c.args.number c.args.self.now.book ≡ Some (Gone c.in-Gone.account) = c.requires.known ∙ ap (λ (a : Admitted). Some a) c.in-Gone.is in
    on_ok_weaker c.push_account.result
    (λ told w stands. gone_text w c.args.self.now c.args.number c.in-Gone.account c.args.text.now.items c.push_account.new.text.items stands booked told)
    c.push_account.ensures
