-- The law `read_steps_are_valid`, from the lemmas that show it.
use Rattle.cy_script.proofs.KeptBy.{script_kept}
use Rattle.cy_script.proofs.Scripts.{read_is_script}
use Rattle.cyctl.proofs.ReadSteps.{script_is_valid}
use Rattle.cyctl.proofs.laws.read_steps_are_valid.Goals as goal

pub returns : goal.returns
returns c = λ input script read. script_is_valid script (script_kept input script (read_is_script input script read))
