-- What the tactics leave of the proof of `coding_framing`.
use Rattle.std.proofs.Common.{◌∙◌, sym, ap, codes}
use Rattle.std.proofs.lemmas.Bool.{cond-false, ne_eqb}
use Rattle.cy_event.specs.Heads.{values_of}
use Rattle.cy_event.specs.Framings.{elements_of}
use Rattle.cy_framing.specs.Lists.{codings_verdict}
use Rattle.cy_framing.proofs.CodingLemmas.{codings_tell}
use Rattle.cy_framing.proofs.codings.coding_framing.Goals as goal

pub returns : goal.returns
returns c =
    c.framing.ensures ∙ ap codings_verdict c.take_elements.ensures
    ∙ codings_tell (elements_of (values_of (codes "Transfer-Encoding") c.args.head.now.head.fields))
    ∙ sym (cond-false _ _ _ (ne_eqb c.args.head.now.head.minor 0 (λ old. c.if-minor-eq0.false (c.minor.ensures.value ∙ old))))
