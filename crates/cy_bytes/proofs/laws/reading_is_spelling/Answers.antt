-- The law `reading_is_spelling`, from the lemmas that show it.
use Rattle.cy_bytes.proofs.Texts.{spelling_is_read, read_is_spelling, fault_is_read, read_is_fault}
use Rattle.cy_bytes.proofs.laws.reading_is_spelling.Goals as goal

pub returns-clause-bytes : goal.returns-clause-bytes
returns-clause-bytes c = λ text bytes. (spelling_is_read text bytes, read_is_spelling text bytes)

pub returns-clause-fault : goal.returns-clause-fault
returns-clause-fault c = λ text place. (fault_is_read text place, read_is_fault text place)
