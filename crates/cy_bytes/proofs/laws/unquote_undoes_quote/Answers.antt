-- The law `unquote_undoes_quote`, from the lemmas that show it.
use Rattle.cy_bytes.specs.Quoting.{quoted}
use Rattle.cy_bytes.proofs.Texts.{spelling_is_read}
use Rattle.cy_bytes.proofs.Quoted.{quoted_is_spelling}
use Rattle.cy_bytes.proofs.laws.unquote_undoes_quote.Goals as goal

pub returns : goal.returns
returns c = λ bytes small. spelling_is_read (quoted bytes) bytes (quoted_is_spelling bytes small)
