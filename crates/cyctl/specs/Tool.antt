-- What the program writes for its words and its input.
use Rattle.std.specs.Prelude.{◌≡◌, ◌⊎◌, ℕ, List, [], ◌∷◌, length, map, reverse, Option, Some, None, IsSome, ◌≤◌, option_map, codes, string_bytes, String}
use Rattle.std.specs.declared.alloc.Global.{Global}
use Rattle.std.specs.Io.KnownBytes.{Appends}
use Rattle.cy_link.specs.Causes.{Rose}
use Rattle.cy_model.specs.Reports.{report}
use Rattle.cy_model.specs.Steps.{IsValid}
use Rattle.cy_script.specs.Reading.{script_of}
use Rattle.cy_script.specs.declared.fault.ScriptFault.{ScriptFault}
use Rattle.cy_script.specs.declared.fault.ScriptFault.TheVariants as script_fault
use Rattle.cy_script.specs.declared.script.Script.{Script}
use Rattle.cyctl.specs.declared.input.TheConstants.{GREATEST_INPUT}
use Rattle.cyctl.specs.declared.input.InputFault.{InputFault}
use Rattle.cyctl.specs.declared.input.InputFault.TheVariants as fault
use Rattle.cyctl.specs.declared.tool.Refusal.{Refusal}
use Rattle.cyctl.specs.declared.tool.Refusal.TheVariants as refusal
use Rattle.cyctl.specs.Causes.{ReadsAll, WritesFront}

-- ---- the words

-- the word
abbrev pub IsReplay : List (String Global) → Type 0
IsReplay words = map string_bytes words ≡ codes "replay" ∷ []

-- ---- what is replayed

-- the report of a script
abbrev pub replayed : Script → List ℕ
replayed script = report script.limits script.rules script.steps

-- the report of an input
abbrev pub report_of : List ℕ → Option (List ℕ)
report_of input = option_map replayed (script_of input)

-- the source was read to its end, and all that it had left is the text of the script
abbrev pub ReadsScript : Option (List ℕ) → Option (List ℕ) → Script → Type 0
ReadsScript left now script = (input : List ℕ) × ReadsAll left now input × (script_of input ≡ Some script)

-- the source was read to its end, and the text is the report of all that it had left
abbrev pub Reports : Option (List ℕ) → Option (List ℕ) → List ℕ → Type 0
Reports left now text = (input : List ℕ) × ReadsAll left now input × (report_of input ≡ Some text)

-- the source was read to its end, and what it had left is outside the form
abbrev pub IsOutside : Option (List ℕ) → Option (List ℕ) → Type 0
IsOutside left now = (input : List ℕ) × ReadsAll left now input × (report_of input ≡ None)

-- ---- texts

abbrev pub usage : List ℕ
usage = codes "usage: cyctl replay | check | gen <n> | burn <n>\n"

abbrev pub refused_script : List ℕ
refused_script = codes "refused: script\n"

abbrev pub source_fault : List ℕ
source_fault = codes "source fault\n"

abbrev pub no_memory : List ℕ
no_memory = codes "no memory\n"

abbrev pub too_large : List ℕ
too_large = codes "too large\n"

-- A sink got the text, or a front of it where its count of faults rose.
abbrev pub Tells : Option (List ℕ) → Option (List ℕ) → ℕ → ℕ → List ℕ → Type 0
Tells held now before after text = Appends held now text ⊎ (Rose before after × WritesFront held now text)

-- ---- refusals

abbrev pub message_of : Refusal → List ℕ
message_of refusal.Source = source_fault
message_of refusal.TooLarge = too_large
message_of refusal.Script = refused_script
message_of refusal.NoMemory = no_memory

abbrev pub status_of : Refusal → ℕ
status_of refusal.Script = 3
status_of refusal.Source = 4
status_of refusal.NoMemory = 6
status_of refusal.TooLarge = 7

-- why an input that was not read is not reported
abbrev pub refusal_of : InputFault → Refusal
refusal_of fault.Failed = refusal.Source
refusal_of fault.TooLarge = refusal.TooLarge
refusal_of fault.NoMemory = refusal.NoMemory

-- why a script that was not read is not reported
abbrev pub refusal_for : ScriptFault → Refusal
refusal_for script_fault.Refused = refusal.Script
refusal_for script_fault.NoMemory = refusal.NoMemory

-- ---- what a status says of the input and the output

-- the report of what the source had left was written
pub record WritesReport (left now held holds : Option (List ℕ)) : Type 0 where
  pub text : List ℕ
  pub reports : Reports left now text
  pub written : Appends held holds text

-- a front of it was written
pub record WritesReportFront (left now held holds : Option (List ℕ)) : Type 0 where
  pub text : List ℕ
  pub reports : Reports left now text
  pub written : WritesFront held holds text

-- the message of the refusal that has the status was told
abbrev pub IsTold : Option (List ℕ) → Option (List ℕ) → ℕ → ℕ → ℕ → Type 0
IsTold held holds before after status = (r : Refusal) → status ≡ status_of r → Tells held holds before after (message_of r)

-- the statuses of a replay
abbrev pub IsReplayStatus : ℕ → Type 0
IsReplayStatus status = (status ≡ 0) ⊎ (status ≡ 5) ⊎ ((r : Refusal) × (status ≡ status_of r))

-- the counts of faults stand
abbrev pub HasNotRisen : ℕ → ℕ → Type 0
HasNotRisen before now = Rose before now → ⊥

-- an input of the form that is not too large
pub record IsInForm (left : Option (List ℕ)) : Type 0 where
  pub input : List ℕ
  pub left_is : left ≡ Some input
  pub small : length input ≤ GREATEST_INPUT
  pub form : IsSome (report_of input)

-- ---- a law

-- the steps of a script that is read are a valid list, read from its newest step
abbrev pub ReadStepsAreValid : Type 0
ReadStepsAreValid = (input : List ℕ) (script : Script) → script_of input ≡ Some script → IsValid (reverse script.steps)
