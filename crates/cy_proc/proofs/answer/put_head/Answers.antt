-- What is left to show of `put_head`.
use Rattle.cy_proc.proofs.AnswerParts.{parts_of_head}
use Rattle.cy_proc.proofs.answer.put_head.Goals as goal

pub returns-clause-head : goal.returns-clause-head
returns-clause-head c = cc (parts_of_head c.args.kit.now.output c.args.fields.now c.args.status c.args.size c.args.at c.args.connection)
