-- The law `moves_are_the_containers`, from the lemmas that show it.
use Rattle.cy_model.proofs.ContainerMarks as shown
use Rattle.cy_model.proofs.laws.moves_are_the_containers.Goals as goal

pub returns : goal.returns
returns c = shown.moves_are_the_containers
