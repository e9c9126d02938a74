-- A digit that makes the number too large.
use Rattle.cy_bytes.proofs.Digits.{read_large}
use Rattle.cy_bytes.proofs.numbers.number.Goals as goal

pub returns-in_default-with_digit : goal.returns-in_default-with_digit
returns-in_default-with_digit c =
    read_large c.args.radix c.args.bytes.now c.loop-byte.value c.loop-byte.byte-index c.in-Some.digit c.loop-byte.invariant
    c.loop-byte-test.true c.requires.some c.in-Some.ensures.1 c.if-digit-radix.false c.in_default-with_digit.ensures
