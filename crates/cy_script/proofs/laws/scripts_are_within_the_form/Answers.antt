-- The law `scripts_are_within_the_form`, from the lemmas that show it.
use Rattle.cy_script.proofs.KeptBy.{script_kept}
use Rattle.cy_script.proofs.Scripts.{read_is_script}
use Rattle.cy_script.proofs.laws.scripts_are_within_the_form.Goals as goal

pub returns : goal.returns
returns c = λ text script h. script_kept text script (read_is_script text script h)
