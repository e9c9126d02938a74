-- What is left to show of `put_error`.
use Rattle.std.proofs.Common.{◌≡◌, ℕ, ◌+◌, List, length, ap}
use Rattle.std.specs.Prelude.{decimal}
use Rattle.cy_proc.proofs.AnswerParts.{error_size, head_of_error, parts_of_error}
use Rattle.cy_proc.proofs.answer.put_error.Goals as goal

pub returns-then-with_content-clause-output : goal.returns-then-with_content-clause-output
returns-then-with_content-clause-output c =
    let args = c.args in
    let number : c.as_bytes-number.result.now ≡ decimal args.status = cc in
    let size = error_size args.status _ (ap (λ (u : List ℕ). 6 + length u + 1) number) in
    cc (parts_of_error args.kit.now.output args.status _ args.at args.connection size)

pub returns-else-with_content-clause-output : goal.returns-else-with_content-clause-output
returns-else-with_content-clause-output c =
    let args = c.args in
    let number : c.as_bytes-number.result.now ≡ decimal args.status = cc in
    let size = error_size args.status _ (ap (λ (u : List ℕ). 6 + length u + 1) number) in
    cc (head_of_error args.kit.now.output args.status _ args.at args.connection size)
