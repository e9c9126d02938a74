-- What is left to show of `between`.
use Rattle.std.proofs.Common.{sym, None, Some}
use Rattle.std.proofs.lemmas.Bool.Decides.{Decides-eqb}
use Rattle.std.proofs.lemmas.Slice.Eq.{strip_prefix_is, strip_suffix_is}
use Rattle.cy_script.proofs.Quoted.{no_front, stripped}
use Rattle.cy_script.proofs.fields.between.Goals as goal

pub returns-in_err-strip_prefix : goal.returns-in_err-strip_prefix
returns-in_err-strip_prefix c = rw c.from_residual.ensures (sym (no_front c.args.front.now c.args.back.now c.args.text.now (strip_prefix_is Decides-eqb c.args.text.now c.args.front.now None c.in_err-strip_prefix.ensures.cases)))

pub returns : goal.returns
returns c =
    stripped c.args.front.now c.args.back.now c.args.text.now c.in_ok-strip_prefix.field-0.now c.strip_suffix.result
    (strip_prefix_is Decides-eqb c.args.text.now c.args.front.now (Some c.in_ok-strip_prefix.field-0) c.in_ok-strip_prefix.ensures.cases)
    (strip_suffix_is Decides-eqb c.in_ok-strip_prefix.field-0.now c.args.back.now c.strip_suffix.result c.strip_suffix.ensures.cases)
