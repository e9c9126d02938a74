-- What is left to show of `LatchBook::enter`.
use Rattle.std.proofs.Common.{ℕ, List, vec_capacity, refl, subst, arith}
use Rattle.cy_latch.specs.Free.{IsFree}
use Rattle.cy_latch.proofs.Drawn.{drawn_below, drawn_idle, free_drawn}
use Rattle.cy_latch.proofs.book.LatchBook.enter.Goals as goal

pub index_mut-requires : goal.index_mut-requires
index_mut-requires c =
    let room : ℕ = vec_capacity c.self.inside.free in
    let free = subst (λ (l : List ℕ). IsFree c.self.inside.is_out.items l room) c.in-Some.ensures.items c.self.invariant in
    let below = drawn_below c.self.inside.is_out.items c.pop.new.self.items c.in-Some.number room free in
    omega (arith, below, c.self.inside.is_out.ok)

pub invariant_of-self : goal.invariant_of-self
invariant_of-self c =
    let room : ℕ = vec_capacity c.self.inside.free in
    let free = subst (λ (l : List ℕ). IsFree c.self.inside.is_out.items l room) c.in-Some.ensures.items c.self.invariant in
    rw c.in-Some.ensures.capacity (free_drawn c.self.inside.is_out.items c.pop.new.self.items c.in-Some.number room free)

pub returns-in-Some-clause-turn : goal.returns-in-Some-clause-turn
returns-in-Some-clause-turn c =
    let room : ℕ = vec_capacity c.self.inside.free in
    let free = subst (λ (l : List ℕ). IsFree c.self.inside.is_out.items l room) c.in-Some.ensures.items c.self.invariant in
    rw (← c.self.view_is) (
      drawn_below c.self.inside.is_out.items c.pop.new.self.items c.in-Some.number room free,
      drawn_idle c.self.inside.is_out.items c.pop.new.self.items c.in-Some.number room free,
      refl,
    )
