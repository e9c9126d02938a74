-- What is left to show of `MemSourceSource::read`.
use Rattle.std.proofs.Common.{◌≡◌, length, take, drop, arith}
use Rattle.std.proofs.lemmas.Grind.{common_steps}
use Rattle.cy_link.proofs.Fronts.{front_moves}
use Rattle.cy_link.proofs.mem_source.MemSourceSource.read.Goals as goal

pub returns-clause-moves : goal.returns-clause-moves
returns-clause-moves c =
    let items = c.args.self.now.content.items in
    let at' = c.args.self.now.position in
    let n = c.min-count.result in
    let front = c.copy_from_slice.new.self in
    let is : front ≡ take n (drop at' items) = grind (arith, common_steps) in
    let len : length front ≡ n = grind (arith, common_steps) in
    front_moves items _ front at' n len is
