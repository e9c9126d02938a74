-- What an answer that gives the reading says of the text.
use Rattle.std.proofs.Common.{◌≡◌, ℕ, List, Result, Ok, Err, subst}
use Rattle.std.specs.Prelude.{IfOk}
use Rattle.cy_bytes.specs.declared.fault.QuoteFault.{QuoteFault}
use Rattle.cy_bytes.specs.declared.fault.QuoteFault.TheVariants.{BadEscape}
use Rattle.cy_bytes.specs.QuoteFault.{Gives}
use Rattle.cy_bytes.specs.Quoting.{unquoted, IsSpelling, HasFirstFault}
use Rattle.cy_bytes.proofs.Texts.{read_is_spelling, read_is_fault}

pub ok_spells : (answer : Result (List ℕ) QuoteFault) (text : List ℕ) → Gives answer (unquoted text) → IfOk answer (IsSpelling text)
ok_spells (Ok bytes) text gives = read_is_spelling text bytes gives
ok_spells (Err fault) text gives = tt

pub at_reading : (answer : Result (List ℕ) QuoteFault) (text : List ℕ) (read : Result (List ℕ) ℕ) → unquoted text ≡ read → Gives answer (unquoted text) → Gives answer read
at_reading answer text read is gives = subst (Gives answer) is gives

pub names_fault : (answer : Result (List ℕ) QuoteFault) (text : List ℕ) (place : ℕ) → answer ≡ Err (BadEscape place) → Gives answer (unquoted text) → HasFirstFault text place
names_fault answer text place was gives = read_is_fault text place (subst (λ a. Gives a (unquoted text)) was gives)
