-- The law `nothing_follows_an_end`, by what is proved of it elsewhere.
use Rattle.cy_event.specs.declared.steps.State.TheVariants as state
use Rattle.cy_event.proofs.Histories.{nothing_follows_an_end}
use Rattle.cy_states.proofs.laws.nothing_follows_an_end.Goals as goal

pub returns : goal.returns
returns c = nothing_follows_an_end state.Dispatched
