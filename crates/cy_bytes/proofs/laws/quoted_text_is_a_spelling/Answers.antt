-- The law `quoted_text_is_a_spelling`, from the lemmas that show it.
use Rattle.cy_bytes.proofs.Quoted.{quoted_is_spelling}
use Rattle.cy_bytes.proofs.laws.quoted_text_is_a_spelling.Goals as goal

pub returns : goal.returns
returns c = quoted_is_spelling
