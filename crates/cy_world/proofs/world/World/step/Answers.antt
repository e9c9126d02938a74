-- What is left to show of `World::step`.
use Rattle.std.proofs.Common.{◌≡◌, ◌<◌, ◌∷◌, ℕ, List, length, drop, Some, None, is_some, refl, sym, ap, ◌∙◌, subst, arith}
use Rattle.std.proofs.lemmas.List.{take_at}
use Rattle.cy_model.specs.Replies.{got_in}
use Rattle.std.specs.Prelude.{option_copied}
use Rattle.cy_world.specs.Answered.{entry_by}
use Rattle.cy_world.specs.Worlds.{find_in}
use Rattle.cy_world.specs.declared.world.Admitted.TheVariants.{Gone, Seated}
use Rattle.cy_world.proofs.Owned.{answered_as, as_before, is_lent, on_err, own_stands, place_below}
use Rattle.cy_world.proofs.Passing.{gone_answers, nobody_answers}
use Rattle.cy_world.proofs.Stepping.{kind_of_own, same_stands}
use Rattle.cy_world.proofs.Wanting.{held_wants}
use Rattle.cy_world.proofs.world.World.step.Goals as goal

pub returns-in-None-clause-takes : goal.returns-in-None-clause-takes
returns-in-None-clause-takes c =
    let kind = kind_of_own c.conn_of-number.result c.args.step.now c.conn_of-number.ensures in
    let unknown : find_in c.conn_of-number.result c.self.inside.book.entries ≡ None = sym c.get.ensures.value ∙ ap option_copied c.in-None.is in
    rw (← c.self.view_is) (λ w stands. answered_as w c.args.step.now _ _ _ _ c.without_bytes-in-None.ensures (nobody_answers w c.args.step.now c.conn_of-number.result (entry_by c.args.step.now) _ kind stands unknown))

pub returns-in-Some-Gone-clause-takes : goal.returns-in-Some-Gone-clause-takes
returns-in-Some-Gone-clause-takes c =
    let kind = kind_of_own c.conn_of-number.result c.args.step.now c.conn_of-number.ensures in
    let booked : find_in c.conn_of-number.result c.self.inside.book.entries ≡ Some (Gone c.in-Some-Gone.field-0-0) =
    sym c.get.ensures.value ∙ ap option_copied c.in-Some-Gone.is ∙ ap Some c.in-Some-Gone.field-0-is in
    rw (← c.self.view_is) (λ w stands. answered_as w c.args.step.now _ _ _ _ c.without_bytes-in-Some-Gone.ensures (gone_answers w c.args.step.now c.conn_of-number.result (entry_by c.args.step.now) _ c.in-Some-Gone.field-0-0 kind stands booked))

pub index_mut-seat-requires : goal.index_mut-seat-requires
index_mut-seat-requires c =
    let booked : find_in c.conn_of-number.result c.self.inside.book.entries ≡ Some (Seated c.in-Some-Seated.place) =
    sym c.get.ensures.value ∙ ap option_copied c.in-Some-Seated.is ∙ ap Some c.in-Some-Seated.field-0-is in
    subst (λ (n : ℕ). c.in-Some-Seated.place < n) (sym c.self.inside.seats.ok.0) (place_below c.self.invariant.0 _ c.conn_of-number.result c.in-Some-Seated.place c.self.invariant.1 booked)

pub take-requires-clause-kept : goal.take-requires-clause-kept
take-requires-clause-kept c =
    let booked : find_in c.conn_of-number.result c.self.inside.book.entries ≡ Some (Seated c.in-Some-Seated.place) =
    sym c.get.ensures.value ∙ ap option_copied c.in-Some-Seated.is ∙ ap Some c.in-Some-Seated.field-0-is in
    let lent = is_lent c.self.invariant.0 _ c.conn_of-number.result c.in-Some-Seated.place c.index_mut-seat.result.now c.self.invariant.1 booked c.index_mut-seat.ensures.value in
    lent.kept

pub take-requires-clause-guest : goal.take-requires-clause-guest
take-requires-clause-guest c =
    let booked : find_in c.conn_of-number.result c.self.inside.book.entries ≡ Some (Seated c.in-Some-Seated.place) =
    sym c.get.ensures.value ∙ ap option_copied c.in-Some-Seated.is ∙ ap Some c.in-Some-Seated.field-0-is in
    let lent = is_lent c.self.invariant.0 _ c.conn_of-number.result c.in-Some-Seated.place c.index_mut-seat.result.now c.self.invariant.1 booked c.index_mut-seat.ensures.value in
    lent.guest

pub take-requires-clause-slot : goal.take-requires-clause-slot
take-requires-clause-slot c =
    let booked : find_in c.conn_of-number.result c.self.inside.book.entries ≡ Some (Seated c.in-Some-Seated.place) =
    sym c.get.ensures.value ∙ ap option_copied c.in-Some-Seated.is ∙ ap Some c.in-Some-Seated.field-0-is in
    let lent = is_lent c.self.invariant.0 _ c.conn_of-number.result c.in-Some-Seated.place c.index_mut-seat.result.now c.self.invariant.1 booked c.index_mut-seat.ensures.value in
    lent.slot

pub invariant_of-self : goal.invariant_of-self
invariant_of-self c =
    let booked : find_in c.conn_of-number.result c.self.inside.book.entries ≡ Some (Seated c.in-Some-Seated.place) =
    sym c.get.ensures.value ∙ ap option_copied c.in-Some-Seated.is ∙ ap Some c.in-Some-Seated.field-0-is in
    let lent = is_lent c.self.invariant.0 _ c.conn_of-number.result c.in-Some-Seated.place c.index_mut-seat.result.now c.self.invariant.1 booked c.index_mut-seat.ensures.value in (
      c.self.invariant.0,
      same_stands c.self.invariant.0 _ c.in-Some-Seated.place c.index_mut-seat.result.now c.take.new.self c.self.invariant.1 lent.there c.in_err-reply-2.ensures.unchanged,
    )

pub returns-in_err-reply-2-clause-stands : goal.returns-in_err-reply-2-clause-stands
returns-in_err-reply-2-clause-stands c =
    let booked : find_in c.conn_of-number.result c.self.inside.book.entries ≡ Some (Seated c.in-Some-Seated.place) =
    sym c.get.ensures.value ∙ ap option_copied c.in-Some-Seated.is ∙ ap Some c.in-Some-Seated.field-0-is in
    let lent = is_lent c.self.invariant.0 _ c.conn_of-number.result c.in-Some-Seated.place c.index_mut-seat.result.now c.self.invariant.1 booked c.index_mut-seat.ensures.value in
    rw (← c.self.view_is)
    (on_err c.from_residual-in_err-reply-2.result _ (λ w stands.
    same_stands w _ c.in-Some-Seated.place c.index_mut-seat.result.now c.take.new.self stands lent.there c.in_err-reply-2.ensures.unchanged))

pub retire_if_gone-requires-clause-kept : goal.retire_if_gone-requires-clause-kept
retire_if_gone-requires-clause-kept c =
    c.take.ensures.kept

pub retire_if_gone-requires-clause-guest : goal.retire_if_gone-requires-clause-guest
retire_if_gone-requires-clause-guest c =
    let booked : find_in c.conn_of-number.result c.self.inside.book.entries ≡ Some (Seated c.in-Some-Seated.place) =
    sym c.get.ensures.value ∙ ap option_copied c.in-Some-Seated.is ∙ ap Some c.in-Some-Seated.field-0-is in
    let lent = is_lent c.self.invariant.0 _ c.conn_of-number.result c.in-Some-Seated.place c.index_mut-seat.result.now c.self.invariant.1 booked c.index_mut-seat.ensures.value in
    ap is_some c.take.ensures.who ∙ lent.guest

pub invariant_of-self-2 : goal.invariant_of-self-2
invariant_of-self-2 c =
    let booked : find_in c.conn_of-number.result c.self.inside.book.entries ≡ Some (Seated c.in-Some-Seated.place) =
    sym c.get.ensures.value ∙ ap option_copied c.in-Some-Seated.is ∙ ap Some c.in-Some-Seated.field-0-is in
    let lent = is_lent c.self.invariant.0 _ c.conn_of-number.result c.in-Some-Seated.place c.index_mut-seat.result.now c.self.invariant.1 booked c.index_mut-seat.ensures.value in (
      c.args.step.now ∷ c.self.invariant.0,
      (own_stands c.self.invariant.0 c.args.step.now c.conn_of-number.result c.in-Some-Seated.place _ c.index_mut-seat.result.now c.take.new.self c.retire_if_gone.new.seat c.in_ok-reply-2.reply c.take.new.into _ _
          c.conn_of-number.ensures c.self.invariant.1 booked lent.there c.take.ensures.who c.take.ensures.kept c.in_ok-reply-2.ensures.counts c.in_ok-reply-2.ensures.slot c.in_ok-reply-2.ensures.answers c.retire_if_gone.ensures).stands,
    )

pub returns-clause-takes : goal.returns-clause-takes
returns-clause-takes c =
    let booked : find_in c.conn_of-number.result c.self.inside.book.entries ≡ Some (Seated c.in-Some-Seated.place) =
    sym c.get.ensures.value ∙ ap option_copied c.in-Some-Seated.is ∙ ap Some c.in-Some-Seated.field-0-is in
    let lent = is_lent c.self.invariant.0 _ c.conn_of-number.result c.in-Some-Seated.place c.index_mut-seat.result.now c.self.invariant.1 booked c.index_mut-seat.ensures.value in
    let content = c.in_ok-content.content in
    let size : length c.take.new.into ≡ content.len = omega (arith, c.deref_mut.ensures.len, content.ok) in
    let kept = take_at c.take.new.into (drop (length c.take.new.into) content.items) content.len size in
    rw (← c.self.view_is) (λ w stands. answered_as w c.args.step.now _ _ _ _
    (ap (λ (u : List ℕ). record { reply = c.in_ok-reply-2.reply; got = u }) (c.got_in-got.ensures ∙ ap (got_in c.in_ok-reply-2.reply) kept))
    (own_stands w c.args.step.now c.conn_of-number.result c.in-Some-Seated.place _ c.index_mut-seat.result.now c.take.new.self c.retire_if_gone.new.seat c.in_ok-reply-2.reply c.take.new.into _ _
    c.conn_of-number.ensures stands booked lent.there c.take.ensures.who c.take.ensures.kept c.in_ok-reply-2.ensures.counts c.in_ok-reply-2.ensures.slot c.in_ok-reply-2.ensures.answers c.retire_if_gone.ensures))

pub returns-in_err-reply-2-clause-unchanged : goal.returns-in_err-reply-2-clause-unchanged
returns-in_err-reply-2-clause-unchanged c =
    let booked : find_in c.conn_of-number.result c.self.inside.book.entries ≡ Some (Seated c.in-Some-Seated.place) =
    sym c.get.ensures.value ∙ ap option_copied c.in-Some-Seated.is ∙ ap Some c.in-Some-Seated.field-0-is in
    let lent = is_lent c.self.invariant.0 _ c.conn_of-number.result c.in-Some-Seated.place c.index_mut-seat.result.now c.self.invariant.1 booked c.index_mut-seat.ensures.value in
    rw (← c.self.view_is)
    (on_err c.from_residual-in_err-reply-2.result _ (as_before _ c.in-Some-Seated.place c.index_mut-seat.result.now c.take.new.self c.self.inside.latch c.self.inside.book.entries lent.there c.in_err-reply-2.ensures.unchanged refl refl))

pub returns-in_err-reply-2-clause-memory : goal.returns-in_err-reply-2-clause-memory
returns-in_err-reply-2-clause-memory c =
    let booked : find_in c.conn_of-number.result c.self.inside.book.entries ≡ Some (Seated c.in-Some-Seated.place) =
    sym c.get.ensures.value ∙ ap option_copied c.in-Some-Seated.is ∙ ap Some c.in-Some-Seated.field-0-is in
    rw (← c.self.view_is)
    (on_err c.from_residual-in_err-reply-2.result _ (held_wants c.conn_of-number.result c.args.step.now _ c.in-Some-Seated.place c.conn_of-number.ensures booked))
