-- Whether a head is due, and whether one is awaited.
use Rattle.std.proofs.Common.{◌≡◌, ◌↔◌, ℕ, ◌<◌, Bool, true, false, cond, List, length, leb, Option, Some, None, refl, sym, ap, ◌∙◌}
use Rattle.std.proofs.lemmas.Bool.{cond-false, leb-false, lt-leb}
use Rattle.cy_event.specs.Heads.{awaited, front_length, head_of}
use Rattle.cy_head.specs.Answers.{due_by, due_by_bytes}
use Rattle.cy_head.specs.declared.due.Due.{Due}
use Rattle.cy_head.specs.declared.due.Due.TheVariants.{Wait, TooLong}
use Rattle.cy_head.proofs.HeadFronts.{heads_are_awaited}

small_by_test : (max_head size : ℕ) (t : Bool) → leb max_head size ≡ t → cond t TooLong Wait ≡ Wait → size < max_head
small_by_test max_head size true over e = absurd (cc)
small_by_test max_head size false under e = leb-false max_head size under

wait_tells : (max_head size : ℕ) (front : Option ℕ) → due_by max_head size front ≡ Wait → (front ≡ None) × (size < max_head)
wait_tells max_head size None e = (refl, small_by_test max_head size _ refl e)
wait_tells max_head size (Some n) e = absurd (cc)

wait_from : (max_head size : ℕ) (front : Option ℕ) → front ≡ None → size < max_head → due_by max_head size front ≡ Wait
wait_from max_head size front none small =
    ap (due_by max_head size) none ∙ cond-false _ _ _ (lt-leb _ _ small)

-- no head is due exactly where one is awaited
pub wait_is_awaited : (max_head max_fields : ℕ) (bytes : List ℕ) (answer : Due) → answer ≡ due_by_bytes max_head bytes
    → (answer ≡ Wait) ↔ (head_of max_head max_fields bytes ≡ awaited)
wait_is_awaited max_head max_fields bytes answer is =
    let law = heads_are_awaited max_head max_fields bytes in (
      λ e. let w = wait_tells max_head (length bytes) (front_length bytes) (sym is ∙ e) in law.1 (w.0, w.1),
      λ e. let w = law.0 e in is ∙ wait_from max_head (length bytes) (front_length bytes) w.0 w.1,
    )
