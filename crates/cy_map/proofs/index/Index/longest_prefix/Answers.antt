-- What is left to show of `Index::longest_prefix`.
use Rattle.std.proofs.Common.{◌≡◌, ◌-◌, ◌∙◌, sym, arith, take, length-take-le, Some}
use Rattle.cy_map.specs.declared.index.Form.TheVariants.{Prefix}
use Rattle.cy_map.specs.Indexes.{first_read}
use Rattle.cy_map.proofs.Lookups.{too_long}
use Rattle.cy_map.proofs.Prefixes.{longest_found, no_longest}
use Rattle.cy_map.proofs.index.Index.longest_prefix.Goals as goal

pub loop-end-init : goal.loop-end-init
loop-end-init c = λ longer from to ends.
    too_long c.args.rules.now c.args.longest (take longer c.args.path.now) c.requires.bases (omega (arith, from, to, c.min-end.ensures, length-take-le longer c.args.path.now to))

pub returns-in-Some : goal.returns-in-Some
returns-in-Some c =
    let end = c.loop-end.end - 1 in
    let text = take end c.args.path.now in
    let first : first_read Prefix c.args.rules.now text ≡ Some c.in-Some.rule.now = sym (c.requires.index text) ∙ sym c.in-Some.ensures in
    sym (longest_found c.args.rules.now c.args.path.now end c.in-Some.rule.now (omega (arith, c.loop-end.auto.end, c.min-end.ensures)) (sym c.if-ends_base.ensures) first
    (λ longer more within ends. c.loop-end.invariant longer (omega (arith, more)) within ends))

pub returns : goal.returns
returns c =
    let h = c.loop-end-test.false in
    sym (no_longest c.args.rules.now c.args.path.now (λ end within ends. c.loop-end.invariant end (omega (arith, h)) within ends))
