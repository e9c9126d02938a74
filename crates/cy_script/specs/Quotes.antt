-- A quoted text that is not read.
use Rattle.cy_bytes.specs.declared.fault.QuoteFault.{QuoteFault}
use Rattle.cy_bytes.specs.declared.fault.QuoteFault.TheVariants as quote
use Rattle.cy_script.specs.declared.fault.ScriptFault.{ScriptFault}
use Rattle.cy_script.specs.declared.fault.ScriptFault.TheVariants.{Refused, NoMemory}

-- a text outside its form is outside the script's
abbrev pub fault_of : QuoteFault → ScriptFault
fault_of (quote.BadEscape place) = Refused
fault_of quote.NoMemory = NoMemory
