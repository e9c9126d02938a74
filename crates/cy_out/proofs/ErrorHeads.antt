-- The head of an error answer, as it is made.
use Rattle.std.proofs.Common.{◌≡◌, ℕ, Bool, true, ap, ◌∙◌, codes}
use Rattle.std.specs.Prelude.{if◌then◌else◌}
use Rattle.cy_event.specs.Answers.{Answer, fresh_answer}
use Rattle.cy_event.specs.Answering.{error_head}
use Rattle.cy_event.specs.Heads.{Field}
use Rattle.cy_respond.specs.Fields.{after_field, after_status, is_status}
use Rattle.cy_respond.proofs.ErrorFields.{plain_text_is_added}

-- what a fresh head becomes with the status and the field
pub error_head_is : (status : ℕ) (fresh set added : Answer) → is_status status ≡ true → fresh ≡ fresh_answer → set ≡ after_status status fresh
    → added ≡ after_field (record { name = codes "Content-Type"; value = codes "text/plain" }) set → added ≡ error_head status
error_head_is status fresh set added known is_fresh is_set is_added =
    let field : Field = record { name = codes "Content-Type"; value = codes "text/plain" } in
    let taken = ap (λ (t : Bool). if t then record fresh_answer { status = status } else fresh_answer) known in
    is_added ∙ ap (after_field field) (is_set ∙ ap (after_status status) is_fresh ∙ taken) ∙ plain_text_is_added status
