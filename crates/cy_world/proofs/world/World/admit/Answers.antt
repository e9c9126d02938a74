-- What is left to show of `World::admit`.
use Rattle.std.proofs.Common.{◌∷◌, ℕ, Some, sym, ap, ◌∙◌, subst}
use Rattle.cy_event.specs.declared.steps.Step.TheVariants as step
use Rattle.cy_latch.specs.Numbers.{after_leave}
use Rattle.cy_latch.specs.Runs.{IsTurn, entered}
use Rattle.cy_world.specs.Worlds.{WorldParts, find_in}
use Rattle.cy_world.proofs.Owned.{admit_stands, as_before, is_free, left_again, same_again, vacant_still}
use Rattle.cy_world.proofs.Visits.{counts_behind}
use Rattle.cy_world.proofs.Wanting.{share_wants}
use Rattle.cy_world.proofs.world.World.admit.Goals as goal

pub book_seat-requires : goal.book_seat-requires
book_seat-requires c =
    let turn = subst (λ (n : ℕ). IsTurn c.self.inside.latch (entered n) c.enter.new.self) (sym c.number-place.ensures) c.in-Entered.ensures.turn in
    let free = is_free c.self.invariant.0 _ c.number-place.result c.index_mut-seat.result.now c.self.invariant.1 turn.0 turn.1 c.index_mut-seat.ensures.value in
    record { kept = free.place.kept }

pub invariant_of-self-in_default : goal.invariant_of-self-in_default
invariant_of-self-in_default c =
    let turn = subst (λ (n : ℕ). IsTurn c.self.inside.latch (entered n) c.enter.new.self) (sym c.number-place.ensures) c.in-Entered.ensures.turn in
    let free = is_free c.self.invariant.0 _ c.number-place.result c.index_mut-seat.result.now c.self.invariant.1 turn.0 turn.1 c.index_mut-seat.ensures.value in
    let again = c.leave.ensures ∙ ap (after_leave c.enter.new.self) (sym c.number-place.ensures) ∙ left_again c.self.inside.latch c.enter.new.self c.number-place.result turn.0 turn.1 turn.2 in (
      c.self.invariant.0,
      same_again c.self.invariant.0 _ c.number-place.result c.index_mut-seat.result.now c.book_seat.new.seat c.leave.new.self c.book_seat.new.book.entries c.self.invariant.1 free.there c.book_seat.ensures.same again c.in_default.ensures.unbooked,
    )

pub returns-in_default-clause-stands : goal.returns-in_default-clause-stands
returns-in_default-clause-stands c =
    let turn = subst (λ (n : ℕ). IsTurn c.self.inside.latch (entered n) c.enter.new.self) (sym c.number-place.ensures) c.in-Entered.ensures.turn in
    let free = is_free c.self.invariant.0 _ c.number-place.result c.index_mut-seat.result.now c.self.invariant.1 turn.0 turn.1 c.index_mut-seat.ensures.value in
    let again = c.leave.ensures ∙ ap (after_leave c.enter.new.self) (sym c.number-place.ensures) ∙ left_again c.self.inside.latch c.enter.new.self c.number-place.result turn.0 turn.1 turn.2 in
    rw (← c.self.view_is) (λ w stands. same_again w _ c.number-place.result c.index_mut-seat.result.now c.book_seat.new.seat c.leave.new.self c.book_seat.new.book.entries stands free.there c.book_seat.ensures.same again c.in_default.ensures.unbooked)

pub admit-requires-clause-vacant : goal.admit-requires-clause-vacant
admit-requires-clause-vacant c =
    let turn = subst (λ (n : ℕ). IsTurn c.self.inside.latch (entered n) c.enter.new.self) (sym c.number-place.ensures) c.in-Entered.ensures.turn in
    let free = is_free c.self.invariant.0 _ c.number-place.result c.index_mut-seat.result.now c.self.invariant.1 turn.0 turn.1 c.index_mut-seat.ensures.value in
    vacant_still _ c.number-place.result c.index_mut-seat.result.now c.book_seat.new.seat free c.book_seat.ensures.same

pub invariant_of-self-2 : goal.invariant_of-self-2
invariant_of-self-2 c =
    let turn = subst (λ (n : ℕ). IsTurn c.self.inside.latch (entered n) c.enter.new.self) (sym c.number-place.ensures) c.in-Entered.ensures.turn in
    let free = is_free c.self.invariant.0 _ c.number-place.result c.index_mut-seat.result.now c.self.invariant.1 turn.0 turn.1 c.index_mut-seat.ensures.value in
    let unknown = ap (λ (p : WorldParts). find_in c.args.number p.book) c.self.view_is ∙ c.requires.new in
    let who = c.admit.ensures.who ∙ ap (λ (n : ℕ). Some (record { share = n; number = c.args.number })) (sym c.number-place.ensures) in (
      step.Admit c.args.number ∷ c.self.invariant.0,
      (admit_stands c.self.invariant.0 c.args.number c.number-place.result _ c.index_mut-seat.result.now c.admit.new.self c.retire_if_gone.new.seat c.enter.new.self c.retire_if_gone.new.latch c.book_seat.new.book.entries c.retire_if_gone.new.book.entries
          c.self.invariant.1 unknown turn.0 turn.1 turn.2 free.there who c.admit.ensures.keeps (counts_behind _ _ _ c.book_seat.ensures.same.place c.admit.ensures.counts) c.admit.ensures.slot c.in-Ok.ensures.booked c.retire_if_gone.ensures).stands,
    )

pub returns-clause-takes : goal.returns-clause-takes
returns-clause-takes c =
    let turn = subst (λ (n : ℕ). IsTurn c.self.inside.latch (entered n) c.enter.new.self) (sym c.number-place.ensures) c.in-Entered.ensures.turn in
    let free = is_free c.self.invariant.0 _ c.number-place.result c.index_mut-seat.result.now c.self.invariant.1 turn.0 turn.1 c.index_mut-seat.ensures.value in
    let unknown = ap (λ (p : WorldParts). find_in c.args.number p.book) c.self.view_is ∙ c.requires.new in
    let who = c.admit.ensures.who ∙ ap (λ (n : ℕ). Some (record { share = n; number = c.args.number })) (sym c.number-place.ensures) in
    rw (← c.self.view_is) (λ w stands.
    admit_stands w c.args.number c.number-place.result _ c.index_mut-seat.result.now c.admit.new.self c.retire_if_gone.new.seat c.enter.new.self c.retire_if_gone.new.latch c.book_seat.new.book.entries c.retire_if_gone.new.book.entries
    stands unknown turn.0 turn.1 turn.2 free.there who c.admit.ensures.keeps (counts_behind _ _ _ c.book_seat.ensures.same.place c.admit.ensures.counts) c.admit.ensures.slot c.in-Ok.ensures.booked c.retire_if_gone.ensures)

pub returns-in_default-clause-unchanged : goal.returns-in_default-clause-unchanged
returns-in_default-clause-unchanged c =
    let turn = subst (λ (n : ℕ). IsTurn c.self.inside.latch (entered n) c.enter.new.self) (sym c.number-place.ensures) c.in-Entered.ensures.turn in
    let free = is_free c.self.invariant.0 _ c.number-place.result c.index_mut-seat.result.now c.self.invariant.1 turn.0 turn.1 c.index_mut-seat.ensures.value in
    let again = c.leave.ensures ∙ ap (after_leave c.enter.new.self) (sym c.number-place.ensures) ∙ left_again c.self.inside.latch c.enter.new.self c.number-place.result turn.0 turn.1 turn.2 in
    rw (← c.self.view_is) (as_before _ c.number-place.result c.index_mut-seat.result.now c.book_seat.new.seat c.leave.new.self c.book_seat.new.book.entries free.there c.book_seat.ensures.same again c.in_default.ensures.unbooked)

pub returns-in_default-clause-memory : goal.returns-in_default-clause-memory
returns-in_default-clause-memory c =
    rw (← c.self.view_is) (share_wants _ c.self.inside.latch c.in-Entered.ensures.full)
