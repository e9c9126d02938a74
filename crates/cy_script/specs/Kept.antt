-- What holds of every script that is read.
use Rattle.std.specs.Prelude.{◌≡◌, ℕ, ◌⊎◌, ℤ, pos, negsuc, ◌==◌, nat_le, Bool, true, ◌&&◌, List, length}
use Rattle.std.specs.List.{list_all}
use Rattle.cy_event.specs.declared.limits.Limits.{Limits}
use Rattle.cy_event.specs.declared.steps.Act.TheVariants as act
use Rattle.cy_event.specs.declared.steps.Event.TheVariants as event
use Rattle.cy_event.specs.declared.steps.Step.{Step}
use Rattle.cy_event.specs.declared.steps.TheConstants.{GREATEST_READ}
use Rattle.cy_event.specs.declared.steps.Step.TheVariants as step
use Rattle.cy_script.specs.declared.script.Script.{Script}
use Rattle.cy_settings.specs.declared.limit.Limit.TheVariants.{MaxConnections, MaxHttpHeaderSize, MaxHeaderCount, MaxKeepAliveRequests, ConnectionTimeout, AsyncTimeout, MaxSwallowSize, MaxTrailerSize}
use Rattle.cy_script.specs.Conditions.{AreSteps}
use Rattle.cy_script.specs.Settings.{IsInRange}
use Rattle.cy_settings.specs.Rules.{has_part, parts_of, AreRules}

-- a number of requests, or none
abbrev pub IsKeepAlive : ℤ → Type 0
IsKeepAlive requests = (requests ≡ negsuc 0) ⊎ ((n : ℕ) × IsInRange MaxKeepAliveRequests n × (requests ≡ pos n))

-- each value is within its setting's range
pub record AreLimits (limits : Limits) : Type 0 where
  pub connections : IsInRange MaxConnections limits.max_connections
  pub head : IsInRange MaxHttpHeaderSize limits.max_head
  pub fields : IsInRange MaxHeaderCount limits.max_fields
  pub keep_alive : IsKeepAlive limits.max_keep_alive
  pub connection_timeout : IsInRange ConnectionTimeout limits.connection_timeout
  pub async_timeout : IsInRange AsyncTimeout limits.async_timeout
  pub swallow : IsInRange MaxSwallowSize limits.max_swallow
  pub trailer : IsInRange MaxTrailerSize limits.max_trailer

-- no bytes
abbrev pub is_nothing : List ℕ → Bool
is_nothing bytes = length bytes == 0

-- the bytes beside an event or an act are exactly those that it counts, and a read asks for no more than it may
abbrev pub has_its_bytes : Step → Bool
has_its_bytes (step.On conn event.End bytes) = is_nothing bytes
has_its_bytes (step.On conn (event.Took n) bytes) = is_nothing bytes
has_its_bytes (step.Act conn (act.Read n) bytes) = nat_le n GREATEST_READ && is_nothing bytes
has_its_bytes (step.Act conn (act.Write n) bytes) = n == length bytes
has_its_bytes (step.Act conn act.Return bytes) = is_nothing bytes
has_its_bytes s = true

-- the script is within what a text of it may say
pub record IsScript (script : Script) : Type 0 where
  pub limits : AreLimits script.limits
  pub parts : script.limits.parts ≡ parts_of script.rules
  pub rules : AreRules script.rules
  pub known_parts : list_all has_part script.rules ≡ true
  pub steps : AreSteps script.steps
  pub bytes : list_all has_its_bytes script.steps ≡ true
