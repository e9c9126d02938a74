-- What is left to show of `is_check`.
use Rattle.std.proofs.Common.{◌≡◌, List, codes, length, String, Global, sym, ap, ◌∙◌, arith, get_or}
use Rattle.std.proofs.lemmas.Slice.Eq.{bytes_eq-Decides}
use Rattle.cyctl.proofs.OneWord.{one_word}
use Rattle.cyctl.proofs.check.is_check.Goals as goal

pub returns-in-len1 : goal.returns-in-len1
returns-in-len1 c =
    let one : length c.as_slice.result.now ≡ 1 = omega arith in
    let words = c.as_slice.ensures.value in
    let first = c.word-item.is ∙ ap (λ (ws : List (String Global)). get_or ws 0 c.word-item.result) words in
    let same = one_word c.args.words.now.items c.word-item.result (codes "check") (sym (ap length words) ∙ one) first in
    let equal = bytes_eq-Decides c.as_str.result.now (codes "check") in (
      λ t. same.1 (sym c.as_str.ensures.value ∙ equal.0 (sym c.eq.ensures ∙ t)),
      λ e. c.eq.ensures ∙ equal.1 (c.as_str.ensures.value ∙ same.0 e),
    )
