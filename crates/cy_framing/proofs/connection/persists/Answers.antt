-- What the tactics leave of the proof of `persists`.
use Rattle.std.proofs.Common.{◌∙◌, codes}
use Rattle.cy_event.specs.Heads.{values_of}
use Rattle.cy_event.specs.Framings.{elements_of}
use Rattle.cy_framing.proofs.WordLemmas.{kept_is}
use Rattle.cy_framing.proofs.connection.persists.Goals as goal

pub returns : goal.returns
returns c =
    c.keep.ensures
    ∙ kept_is c.args.head.now.head.minor c.minor.result (elements_of (values_of (codes "Connection") c.args.head.now.head.fields)) c.take_elements.new.tally
    c.minor.ensures.value c.take_elements.ensures
