-- What texts of settings mean.
use Rattle.std.specs.Prelude.{◌≡◌, ◌⊎◌, ℕ, List, [], slice_get, IsUtf8, Some, Result, Ok, Err}
use Rattle.toml.specs.Data.{Members}
use Rattle.toml.specs.Parse.{parse_document}
use Rattle.cy_config.specs.declared.fault.SetFault.{SetFault}
use Rattle.cy_config.specs.declared.fault.SetFault.TheVariants.{NotToml, NoMemory}
use Rattle.cy_config.specs.declared.settings.Settings.{Settings}
use Rattle.cy_config.specs.Meaning.{Values, outcome}

-- the settings, as the record that a text means
abbrev pub shown : Settings → Values
shown s = record { limits = s.limits; port = s.port; core = s.core; max = s.max; rules = s.rules }

-- the text is a TOML document with these members
pub record IsToml (text : List ℕ) (ms : Members) : Type 0 where
  pub utf8 : IsUtf8 text
  pub parsed : parse_document text ≡ Some ms

-- the text is none
abbrev pub IsNoToml : List ℕ → Type 0
IsNoToml text = (ms : Members) → IsToml text ms → ⊥

-- what the text means: the outcome of its members, or that it is no TOML
abbrev pub Means : List ℕ → Result Values SetFault → Type 0
Means text answer = ((ms : Members) × IsToml text ms × (answer ≡ outcome ms)) ⊎ (IsNoToml text × (answer ≡ Err NotToml))

-- ---- what functions answer, where memory may run out

-- What was answered, seen by a view, is what is wanted, unless memory ran out.
abbrev pub Reads : {X Y : Type 0} → (X → Y) → Result X SetFault → Result Y SetFault → Type 0
Reads view (Ok x) wanted = wanted ≡ Ok (view x)
Reads view (Err e) wanted = ¬ (e ≡ NoMemory) → wanted ≡ Err e

-- there are no refusals, or the first is answered, unless memory ran out
abbrev pub Checks : {A : Type 0} → Result A SetFault → List SetFault → Type 0
Checks (Ok x) refusals = refusals ≡ []
Checks (Err e) refusals = ¬ (e ≡ NoMemory) → slice_get refusals 0 ≡ Some e
