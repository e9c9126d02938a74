-- The steps can be taken with the one that is added.
use Rattle.std.proofs.Common.{ℕ, List, sym, subst}
use Rattle.cy_event.specs.declared.steps.Step.{Step}
use Rattle.world_tests.specs.Courses.{CanBeTaken, last_by}
use Rattle.world_tests.proofs.NextSteps.{one_more}
use Rattle.world_tests.proofs.tests.course.Steps.push.Goals as goal

-- src/tests/course.rt:82:5
pub invariant_of-self-2 : goal.invariant_of-self-2
invariant_of-self-2 c =
    let more = one_more c.self.inside.last c.self.inside.items.items c.args.step c.self.invariant (c.is_next.ensures c.if-not-is_next.false) in
    subst (λ (last : ℕ). CanBeTaken last c.push.new.self.items) (sym c.last_by-last.ensures)
    (subst (λ (items : List Step). CanBeTaken (last_by c.self.inside.last c.args.step) items) (sym c.in_ok-push.ensures.items) more)
