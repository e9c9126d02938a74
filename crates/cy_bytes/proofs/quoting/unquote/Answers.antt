-- What is left to show of `unquote`.
use Rattle.std.proofs.Common.{Ok, Err}
use Rattle.cy_bytes.proofs.Texts.{spelling_is_read, fault_is_read}
use Rattle.cy_bytes.proofs.Answered.{ok_spells, at_reading, names_fault}
use Rattle.cy_bytes.proofs.quoting.unquote.Goals as goal

pub returns-clause-spelled : goal.returns-clause-spelled
returns-clause-spelled c = ok_spells c.read_items.result c.args.inner.now c.read_items.ensures

pub returns-clause-read : goal.returns-clause-read
returns-clause-read c = λ bytes spells. at_reading c.read_items.result c.args.inner.now (Ok bytes) (spelling_is_read c.args.inner.now bytes spells) c.read_items.ensures

pub returns-clause-bad_escape : goal.returns-clause-bad_escape
returns-clause-bad_escape c = λ place was. names_fault c.read_items.result c.args.inner.now place was c.read_items.ensures

pub returns-clause-fault : goal.returns-clause-fault
returns-clause-fault c = λ place faulty. at_reading c.read_items.result c.args.inner.now (Err place) (fault_is_read c.args.inner.now place faulty) c.read_items.ensures
