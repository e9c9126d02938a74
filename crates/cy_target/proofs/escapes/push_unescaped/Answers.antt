-- What the tactics leave of the proof of `push_unescaped`.
use Rattle.std.proofs.Common.{◌∙◌, sym, ap, arith, length, length-append}
use Rattle.percent_encoding.proofs.PercentLemmas.{length-percent_decode}
use Rattle.cy_target.proofs.EscapeLemmas.{appended}
use Rattle.cy_target.proofs.escapes.push_unescaped.Goals as goal

pub returns-clause-bytes : goal.returns-clause-bytes
returns-clause-bytes c =
    appended c.args.path.now.items _ c.args.bytes.now (sym c.has_right_escapes.ensures ∙ c.if-not-has_right_escapes.false) c.push_decoded.ensures.items

pub returns-clause-size : goal.returns-clause-size
returns-clause-size c =
    omega (arith, simp length-append at (ap length c.push_decoded.ensures.items), (length-percent_decode c.args.bytes.now).0)
