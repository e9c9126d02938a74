-- What a function answers, where memory may run out.
use Rattle.std.specs.Prelude.{◌≡◌, ℕ, List, Result, Ok, Err}
use Rattle.cy_bytes.specs.declared.fault.QuoteFault.{QuoteFault}
use Rattle.cy_bytes.specs.declared.fault.QuoteFault.TheVariants.{BadEscape, NoMemory}

-- What was answered is what reading gives, unless memory ran out.
abbrev pub Gives : Result (List ℕ) QuoteFault → Result (List ℕ) ℕ → Type 0
Gives (Ok bytes) read = read ≡ Ok bytes
Gives (Err (BadEscape place)) read = read ≡ Err place
Gives (Err NoMemory) read = Unit {0}
