-- By cases on what waits and whether the body is whole.
use Rattle.std.proofs.Common.{◌≡◌, ℕ, Bool, true, false, cond, refl}
use Rattle.std.specs.Prelude.{◌||◌}
use Rattle.cy_in.specs.Intakes.{has_content, is_whole}
use Rattle.cy_event.specs.declared.steps.Reply.TheVariants as reply
use Rattle.cy_in.proofs.laws.ready_tells_reads.Goals as goal

never : (t u : Bool) (n : ℕ) → (t || u) ≡ true → cond t (reply.Got n) (cond u reply.GotEnd reply.Again) ≡ reply.Again → ⊥
never true u n h e = cc
never false true n h e = cc
never false false n h e = cc

always : (t u : Bool) (n : ℕ) → (t || u) ≡ false → cond t (reply.Got n) (cond u reply.GotEnd reply.Again) ≡ reply.Again
always true u n h = cc
always false true n h = cc
always false false n h = refl

pub returns : goal.returns
returns c i input = record {
  ready = λ h e. never (has_content i) (is_whole i.scanned.stage) _ h e;
  waits = λ h. always (has_content i) (is_whole i.scanned.stage) _ h;
}
