-- What the tactics leave of the proof of `number_in`.
use Rattle.std.proofs.Common.{◌∙◌, sym, ap}
use Rattle.cy_bytes.specs.Numbers.{decimal_of}
use Rattle.cy_bytes.specs.Tokens as token
use Rattle.cy_framing.proofs.LengthLemmas.{all_zeros, decimal_is, none_is, some_is}
use Rattle.cy_framing.proofs.lengths.number_in.Goals as goal

pub returns-then-is_empty : goal.returns-then-is_empty
returns-then-is_empty c =
    all_zeros c.args.element.now (sym c.without_zeros-digits.ensures ∙ none_is c.without_zeros-digits.result.now c.is_empty.result c.is_empty.ensures c.if-is_empty.true)

pub returns-else-is_empty : goal.returns-else-is_empty
returns-else-is_empty c =
    c.decimal.ensures ∙ ap decimal_of c.without_zeros-digits.ensures
    ∙ decimal_is c.args.element.now (ap token.is_empty (sym c.without_zeros-digits.ensures) ∙ some_is c.without_zeros-digits.result.now c.is_empty.result c.is_empty.ensures c.if-is_empty.false)
