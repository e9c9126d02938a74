-- What the tactics leave of the proof of `has_right_escapes`.
use Rattle.std.proofs.Common.{◌∙◌, sym, rules, drop, ◌≡◌, ap, []}
use Rattle.std.proofs.lemmas.List.{drop_all}
use Rattle.cy_target.proofs.EscapeLemmas.{escapes_right, is_some-unescaped, wrong_at}
use Rattle.cy_target.proofs.escapes.has_right_escapes.Goals as goal

pub returns-then-not-begins_with_escape : goal.returns-then-not-begins_with_escape
returns-then-not-begins_with_escape c =
    sym (is_some-unescaped c.args.bytes.now ∙ c.loop-i.invariant
    ∙ wrong_at c.args.bytes.now c.loop-i.i c.loop-i-test.true c.if-byte-eq37.true (search rules))

pub returns : goal.returns
returns c =
    let done : drop c.loop-i.i c.args.bytes.now ≡ [] = drop_all _ c.args.bytes.now c.loop-i-test.false in
    sym (is_some-unescaped c.args.bytes.now ∙ c.loop-i.invariant ∙ ap escapes_right done)
