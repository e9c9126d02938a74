-- What is left to show of `by_framing`.
use Rattle.std.proofs.Common.{Result, ℕ, sym, ap, ◌∙◌}
use Rattle.cy_framing.specs.Told.{shown}
use Rattle.cy_framing.specs.declared.verdict.Framed.{Framed}
use Rattle.cy_proc.specs.Judging.{framed_of}
use Rattle.cy_proc.proofs.ShortBodies.{framed_short}
use Rattle.cy_proc.proofs.verdict.by_framing.Goals as goal

pub by_rule-requires : goal.by_rule-requires
by_rule-requires c =
    let told : Result Framed ℕ = c.framing.result in
    record { short = framed_short c.args.table.now.head.minor c.args.table.now.head.fields (framed_of c.in-Ok.field-0) (sym c.framing.ensures ∙ ap shown c.in-Ok.is) }
