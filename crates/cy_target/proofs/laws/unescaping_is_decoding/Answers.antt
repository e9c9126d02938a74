-- The law `unescaping_is_decoding`, by what is proved of it elsewhere.
use Rattle.cy_target.proofs.EscapeLemmas.{unescaped_decodes}
use Rattle.cy_target.proofs.laws.unescaping_is_decoding.Goals as goal

pub returns : goal.returns
returns c = unescaped_decodes
