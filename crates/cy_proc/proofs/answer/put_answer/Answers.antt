-- What is left to show of `put_answer`.
use Rattle.std.proofs.Common.{[], length, append_assoc}
use Rattle.cy_proc.specs.AnswerBytes.{head_bytes}
use Rattle.cy_proc.proofs.AnswerParts.{content_is}
use Rattle.cy_proc.proofs.answer.put_answer.Goals as goal

pub returns-clause-output : goal.returns-clause-output
returns-clause-output c =
    let content = c.args.content.now in
    cc (append_assoc c.args.kit.now.output (head_bytes 200 [] (length content) c.args.at c.args.connection) content, content_is content c.args.at c.args.connection)
