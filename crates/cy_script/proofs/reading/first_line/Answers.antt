-- What is left to show of `first_line`.
use Rattle.std.proofs.Common.{◌≡◌, ◌-◌, ◌+◌, length, take, drop, add-one, arith}
use Rattle.std.proofs.lemmas.Grind.{common_steps}
use Rattle.cy_script.proofs.Lines.{line_ends, one_line, is_something}
use Rattle.cy_script.proofs.reading.first_line.Goals as goal

pub returns-in-Some : goal.returns-in-Some
returns-in-Some c =
    let text = c.args.text.now in
    let end = c.in-Some.end in
    let rest : take (length text - (end + 1)) (drop (end + 1) text) ≡ drop (end + 1) text = grind (arith, common_steps) in
    rw (rest, add-one) (line_ends text end c.in-Some.ensures)

pub returns-in-None : goal.returns-in-None
returns-in-None c = one_line c.args.text.now (is_something c.args.text.now c.if-is_empty.ensures) c.in-None.ensures
