-- What is left to show of `cut_word`.
use Rattle.std.proofs.Common.{◌≡◌, ◌-◌, length, take, drop, sym, arith}
use Rattle.std.proofs.lemmas.Grind.{common_steps}
use Rattle.cy_script.proofs.Words.{word_ends, one_word}
use Rattle.cy_script.proofs.fields.cut_word.Goals as goal

pub returns-in-Some-clause-word : goal.returns-in-Some-clause-word
returns-in-Some-clause-word c = sym (word_ends c.args.text.now c.in-Some.end c.in-Some.ensures).0

pub returns-in-Some-clause-rest : goal.returns-in-Some-clause-rest
returns-in-Some-clause-rest c =
    let text = c.args.text.now in
    let end = c.in-Some.end in
    let rest : take (length text - end) (drop end text) ≡ drop end text = grind (arith, common_steps) in
    rw rest (sym (word_ends text end c.in-Some.ensures).1)

pub returns-in-None-clause-word : goal.returns-in-None-clause-word
returns-in-None-clause-word c = sym (one_word c.args.text.now c.in-None.ensures).0

pub returns-in-None-clause-rest : goal.returns-in-None-clause-rest
returns-in-None-clause-rest c = sym (one_word c.args.text.now c.in-None.ensures).1
