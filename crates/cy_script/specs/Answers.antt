-- What a function answers, where memory may run out.
use Rattle.std.specs.Prelude.{◌≡◌, Option, Some, None, Result, Ok, Err}
use Rattle.cy_script.specs.declared.fault.ScriptFault.{ScriptFault}
use Rattle.cy_script.specs.declared.fault.ScriptFault.TheVariants.{Refused, NoMemory}

-- What was answered, seen by a view, is what reading gives, unless memory ran out.
abbrev pub Reads : {X Y : Type 0} → (X → Y) → Result X ScriptFault → Option Y → Type 0
Reads view (Ok x) read = read ≡ Some (view x)
Reads view (Err Refused) read = read ≡ None
Reads view (Err NoMemory) read = Unit {0}
