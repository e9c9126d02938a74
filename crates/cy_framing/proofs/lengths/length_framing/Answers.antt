-- What the tactics leave of the proof of `length_framing`.
use Rattle.std.proofs.Common.{◌∙◌, ap, codes}
use Rattle.cy_event.specs.Heads.{values_of}
use Rattle.cy_event.specs.Framings.{elements_of}
use Rattle.cy_framing.specs.Lists.{lengths_verdict}
use Rattle.cy_framing.proofs.LengthLemmas.{lengths_tell}
use Rattle.cy_framing.proofs.lengths.length_framing.Goals as goal

pub returns : goal.returns
returns c =
    c.framing.ensures ∙ ap lengths_verdict c.take_elements.ensures
    ∙ lengths_tell (elements_of (values_of (codes "Content-Length") c.args.head.now.head.fields))
