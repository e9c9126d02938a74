-- The law `charts_are_the_calls`, by what is proved of it elsewhere.
use Rattle.cy_event.specs.declared.steps.State.TheVariants as state
use Rattle.cy_event.proofs.ChartsWritten.{charts_are_the_calls}
use Rattle.cy_states.proofs.laws.charts_are_the_calls.Goals as goal

pub returns : goal.returns
returns c = charts_are_the_calls state.Dispatched
