-- What is left to show of `replay`: the steps of a script can be run, and what is written is its report.
use Rattle.std.proofs.Common.{◌≡◌, false, List, reverse, sym, subst}
use Rattle.std.specs.List.{list_any}
use Rattle.cy_event.specs.declared.steps.Step.{Step}
use Rattle.cy_model.specs.Steps.{IsValid}
use Rattle.cy_world.specs.Told.{is_clock}
use Rattle.cyctl.proofs.ReadSteps.{script_has_no_clock, script_is_valid}
use Rattle.cyctl.proofs.tool.replay.Goals as goal

pub run-requires-clause-valid : goal.run-requires-clause-valid
run-requires-clause-valid g c =
    subst (λ (steps : List Step). IsValid (reverse steps)) (sym c.as_slice-steps.ensures) (script_is_valid c.in-Ok.script c.in-Ok.ensures.form)

pub run-requires-clause-clock : goal.run-requires-clause-clock
run-requires-clause-clock g c =
    subst (λ (steps : List Step). list_any is_clock steps ≡ false) (sym c.as_slice-steps.ensures) (script_has_no_clock c.in-Ok.script c.in-Ok.ensures.form)
