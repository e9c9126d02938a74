-- The field of an error answer is accepted.
use Rattle.std.proofs.Common.{◌≡◌, ℕ, codes, refl}
use Rattle.cy_bytes.specs.Tokens.{is_token_byte}
use Rattle.cy_event.specs.Answers.{fresh_answer}
use Rattle.cy_event.specs.Answering.{error_head}
use Rattle.cy_respond.specs.Fields.{after_field}

pub plain_text_is_added : (status : ℕ)
    → after_field (record { name = codes "Content-Type"; value = codes "text/plain" }) (record fresh_answer { status = status }) ≡ error_head status
unfolding is_token_byte
plain_text_is_added status = refl
