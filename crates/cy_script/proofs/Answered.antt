-- What an answer that gives the reading says of the text.
use Rattle.std.proofs.Common.{List, ℕ, Result, Ok, Err}
use Rattle.std.specs.Prelude.{IfOk}
use Rattle.cy_script.specs.declared.fault.ScriptFault.{ScriptFault}
use Rattle.cy_script.specs.declared.script.Script.{Script}
use Rattle.cy_script.specs.Answers.{Reads}
use Rattle.cy_script.specs.Kept.{IsScript}
use Rattle.cy_script.specs.Reading.{script_of}
use Rattle.cy_script.specs.Spelling.{IsScriptText}
use Rattle.cy_script.proofs.KeptBy.{script_kept}
use Rattle.cy_script.proofs.Scripts.{read_is_script}

pub ok_is_spelled : (answer : Result Script ScriptFault) (text : List ℕ) → Reads (λ script. script) answer (script_of text) → IfOk answer (IsScriptText text)
ok_is_spelled (Ok script) text gives = read_is_script text script gives
ok_is_spelled (Err fault) text gives = tt

pub ok_is_kept : (answer : Result Script ScriptFault) (text : List ℕ) → Reads (λ script. script) answer (script_of text) → IfOk answer IsScript
ok_is_kept (Ok script) text gives = script_kept text script (read_is_script text script gives)
ok_is_kept (Err fault) text gives = tt
