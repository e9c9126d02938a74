-- The law `one_first_fault`, from the lemmas that show it.
use Rattle.std.proofs.Common.{◌≡◌, Ok, Err}
use Rattle.cy_bytes.specs.Quoting.{unquoted}
use Rattle.cy_bytes.proofs.Texts.{spelling_is_read, fault_is_read}
use Rattle.cy_bytes.proofs.laws.one_first_fault.Goals as goal

pub returns-clause-place : goal.returns-clause-place
returns-clause-place c = λ text one other h k.
    let first : unquoted text ≡ Err one = fault_is_read text one h in
    let second : unquoted text ≡ Err other = fault_is_read text other k in
    cc

pub returns-clause-none : goal.returns-clause-none
returns-clause-none c = λ text bytes place h k.
    let spelled : unquoted text ≡ Ok bytes = spelling_is_read text bytes h in
    let faulty : unquoted text ≡ Err place = fault_is_read text place k in
    absurd cc
