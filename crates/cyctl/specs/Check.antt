-- What `check` writes for its input.
use Rattle.std.specs.Prelude.{◌≡◌, ◌⊎◌, ◌<◌, ◌≤◌, ℕ, if◌then◌else◌, List, [], ◌∷◌, ◌++◌, length, map, Option, Some, codes, string_bytes, String, Ok, Err}
use Rattle.std.specs.declared.alloc.Global.{Global}
use Rattle.std.specs.Fmt.{decimal, signed_decimal}
use Rattle.std.specs.Io.KnownBytes.{Appends}
use Rattle.std.specs.List.{flat_map}
use Rattle.cy_link.specs.Causes.{Rose}
use Rattle.cy_map.specs.declared.rule.Rule.{Rule}
use Rattle.cy_settings.specs.declared.setting.Setting.{Setting}
use Rattle.cy_settings.specs.Settings.{name_of}
use Rattle.cy_config.specs.declared.fault.SetFault.{SetFault}
use Rattle.cy_config.specs.declared.fault.SetFault.TheVariants.{NotToml, UnknownKey, BadSetting, NoMemory}
use Rattle.cy_config.specs.Meaning.{Values}
use Rattle.cy_config.specs.Printing.{told, value_in}
use Rattle.cy_config.specs.Texts.{Means}
use Rattle.cyctl.specs.declared.check.Checked.{Checked}
use Rattle.cyctl.specs.declared.check.Checked.TheVariants as checked
use Rattle.cyctl.specs.declared.input.TheConstants.{GREATEST_INPUT}
use Rattle.cyctl.specs.Causes.{ReadsAll, WasRead, WritesFront}
use Rattle.cyctl.specs.Tool.{HasNotRisen, Tells, too_large, no_memory, source_fault}

-- the word
abbrev pub IsCheck : List (String Global) → Type 0
IsCheck words = map string_bytes words ≡ codes "check" ∷ []

-- ---- texts

-- a setting, by its name and its value
abbrev pub told_setting : Values → Setting → List ℕ
told_setting values setting = name_of setting ++ (codes " " ++ (signed_decimal (value_in values setting) ++ codes "\n"))

abbrev pub mode_word : Rule → List ℕ
mode_word rule = if rule.can_async then codes "async" else codes "sync"

abbrev pub told_rule : Rule → List ℕ
told_rule rule = codes "rule " ++ (rule.pattern ++ (codes " " ++ (decimal rule.part ++ (codes " " ++ (mode_word rule ++ codes "\n")))))

-- settings in full: all but the port, and then the rules
abbrev pub told_text : Values → List ℕ
told_text values = flat_map (told_setting values) told ++ flat_map told_rule values.rules

-- why there are none; want of memory has a message of its own
abbrev pub fault_text : SetFault → List ℕ
fault_text NotToml = codes "refused: not toml\n"
fault_text (UnknownKey name) = codes "refused: unknown key " ++ (name ++ codes "\n")
fault_text (BadSetting name value) = codes "refused: bad setting " ++ (name ++ (codes " " ++ (value ++ codes "\n")))
fault_text NoMemory = no_memory

-- ---- inputs

-- the text tells the settings that the input means
pub record TellsSettings (input text : List ℕ) : Type 0 where
  pub values : Values
  pub means : Means input (Ok values)
  pub told : text ≡ told_text values

-- the text tells why the input is refused
pub record TellsFault (input text : List ℕ) : Type 0 where
  pub fault : SetFault
  pub means : Means input (Err fault)
  pub told : text ≡ fault_text fault

-- what an input came to
abbrev pub TellsInput : List ℕ → Checked → Type 0
TellsInput input (checked.Settings text) = TellsSettings input text.items
TellsInput input (checked.Refused text) = TellsFault input text.items

-- the source was read to its end, and this is what all that it had left came to
abbrev pub IsCheckedSource : Option (List ℕ) → Option (List ℕ) → Checked → Type 0
IsCheckedSource left now checked = (input : List ℕ) × ReadsAll left now input × TellsInput input checked

-- ---- what a status says of the input and the output

-- the settings that the source had left were written in full
pub record WritesSettings (left now held holds : Option (List ℕ)) : Type 0 where
  pub input : List ℕ
  pub text : List ℕ
  pub read : ReadsAll left now input
  pub tells : TellsSettings input text
  pub written : Appends held holds text

-- a front of them was written
pub record WritesSettingsFront (left now held holds : Option (List ℕ)) : Type 0 where
  pub input : List ℕ
  pub text : List ℕ
  pub read : ReadsAll left now input
  pub tells : TellsSettings input text
  pub written : WritesFront held holds text

-- it was told why what the source had left is refused
pub record IsRefused (left now held holds : Option (List ℕ)) (before after : ℕ) : Type 0 where
  pub input : List ℕ
  pub text : List ℕ
  pub read : ReadsAll left now input
  pub tells : TellsFault input text
  pub message : Tells held holds before after text

-- settings that are not too large
pub record AreInForm (left : Option (List ℕ)) : Type 0 where
  pub input : List ℕ
  pub left_is : left ≡ Some input
  pub small : length input ≤ GREATEST_INPUT
  pub values : Values
  pub means : Means input (Ok values)

-- the statuses of a check
abbrev pub IsCheckStatus : ℕ → Type 0
IsCheckStatus status = (status ≡ 0) ⊎ (status ≡ 3) ⊎ (status ≡ 4) ⊎ (status ≡ 5) ⊎ (status ≡ 6) ⊎ (status ≡ 7)

-- What each status says, with its cause: the source had something left and failed so often, and so did the sink.
pub record IsChecked (left now held holds : Option (List ℕ)) (reads read writes wrote status : ℕ) : Type 0 where
  -- the settings that were read were written in full
  pub settings : status ≡ 0 → WritesSettings left now held holds
  -- only where the input, read whole, is no text of settings; its first refusal was told
  pub refused : status ≡ 3 → IsRefused left now held holds writes wrote
  -- only where a count of faults rose in this call; with 5 a front of the settings was written
  pub source : status ≡ 4 → Rose reads read
  pub sink : status ≡ 5 → Rose writes wrote
  pub front : status ≡ 5 → WritesSettingsFront left now held holds
  -- exactly where more than the greatest number of bytes were read in this call
  pub oversized : status ≡ 7 → WasRead (λ n. GREATEST_INPUT < n) left now
  pub within_size : (status ≡ 7 → ⊥) → WasRead (λ n. n ≤ GREATEST_INPUT) left now
  -- their messages, and that there is no status beside these
  pub source_told : status ≡ 4 → Tells held holds writes wrote source_fault
  pub memory_told : status ≡ 6 → Tells held holds writes wrote no_memory
  pub size_told : status ≡ 7 → Tells held holds writes wrote too_large
  pub only : IsCheckStatus status
  -- settings are told, where neither count rises and memory lasts
  pub complete : AreInForm left → HasNotRisen reads read → HasNotRisen writes wrote → (status ≡ 0) ⊎ (status ≡ 6)
