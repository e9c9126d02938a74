-- What is left to show of `LatchBook::leave`.
use Rattle.std.proofs.Common.{◌≡◌, ◌<◌, ℕ, Bool, true, false, List, length, vec_capacity, sym, ◌∙◌, arith}
use Rattle.std.proofs.lemmas.List.{get_or_default}
use Rattle.cy_latch.specs.Numbers.{is_out}
use Rattle.cy_latch.proofs.Drawn.{free_put_back}
use Rattle.cy_latch.proofs.book.LatchBook.leave.Goals as goal

pub invariant_of-self : goal.invariant_of-self
invariant_of-self c =
    let n : ℕ = c.share.inside.number in
    let numbers : List Bool = c.self.inside.is_out.items in
    let below : n < length numbers = omega (arith, c.self.inside.is_out.ok) in
    let out : is_out numbers n ≡ true =
    get_or_default numbers n false c.index.result.now below ∙ sym c.index.ensures ∙ c.if-index.true in
    rw (c.push_reserved.ensures.items, c.push_reserved.ensures.capacity)
    (free_put_back numbers c.self.inside.free.items n (vec_capacity c.self.inside.free) out c.self.invariant)
