-- What is told of a head's body and connection.
use Rattle.std.specs.Prelude.{ℕ, Result, Ok, Err}
use Rattle.cy_event.specs.Framings as spec
use Rattle.cy_framing.specs.declared.verdict.Framed.{Framed}

-- the answer, in the words of the definition
abbrev pub shown : Result Framed ℕ → Result spec.Framed ℕ
shown (Ok told) = Ok (record { body = told.body; keep = told.keep; go_on = told.go_on })
shown (Err status) = Err status
