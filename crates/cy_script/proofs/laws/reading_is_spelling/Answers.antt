-- The law `reading_is_spelling`, from the lemmas that show it.
use Rattle.cy_script.proofs.Scripts.{read_is_script, script_is_read}
use Rattle.cy_script.proofs.laws.reading_is_spelling.Goals as goal

pub returns : goal.returns
returns c = λ text script. (script_is_read text script, read_is_script text script)
