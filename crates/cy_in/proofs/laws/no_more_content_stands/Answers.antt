-- By an end of the body with another byte.
use Rattle.cy_in.proofs.GoingOn.{no_more_stands}
use Rattle.cy_in.proofs.laws.no_more_content_stands.Goals as goal

pub returns : goal.returns
returns c = no_more_stands
