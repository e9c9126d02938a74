-- What is left to show of `read_script`.
use Rattle.std.proofs.Common.{subst}
use Rattle.cy_script.specs.Answers.{Reads}
use Rattle.cy_script.proofs.Answered.{ok_is_kept, ok_is_spelled}
use Rattle.cy_script.proofs.Scripts.{script_is_read}
use Rattle.cy_script.proofs.reading.read_script.Goals as goal

pub returns-clause-found : goal.returns-clause-found
returns-clause-found c = ok_is_spelled c.read_text.result c.args.bytes.now c.read_text.ensures

pub returns-clause-only : goal.returns-clause-only
returns-clause-only c = λ script is. subst (Reads (λ read. read) c.read_text.result) (script_is_read c.args.bytes.now script is) c.read_text.ensures

pub returns-clause-valid : goal.returns-clause-valid
returns-clause-valid c = ok_is_kept c.read_text.result c.args.bytes.now c.read_text.ensures
