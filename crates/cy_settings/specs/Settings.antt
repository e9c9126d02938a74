-- All settings of a connector: its limits, its threads and its port.
use Rattle.std.specs.Prelude.{◌≡◌, ℕ, ℤ, pos, negsuc, Bool, true, false, ◌&&◌, ◌==◌, nat_le, List, [], ◌∷◌, ◌++◌, codes, Option, find, bytes_eq, map}
use Rattle.cy_settings.specs.declared.limit.Limit.{Limit}
use Rattle.cy_settings.specs.declared.limits.Limits.{Limits}
use Rattle.cy_settings.specs.declared.setting.Setting.{Setting}
use Rattle.cy_settings.specs.declared.setting.Setting.TheVariants.{Limit as OfLimit, MinSpareThreads, MaxThreads, Port}
use Rattle.cy_settings.specs.Limits.{can_be_absent, limits, limit_name, limit_default, limit_least, limit_greatest, limit_in}

-- all of them, in the order in which they are told
abbrev pub settings : List Setting
settings = map OfLimit limits ++ MinSpareThreads ∷ MaxThreads ∷ Port ∷ []

abbrev pub name_of : Setting → List ℕ
name_of (OfLimit limit) = limit_name limit
name_of MinSpareThreads = codes "minSpareThreads"
name_of MaxThreads = codes "maxThreads"
name_of Port = codes "port"

-- the setting of a name
abbrev pub setting_named : List ℕ → Option Setting
setting_named name = find (λ setting. bytes_eq (name_of setting) name) settings

-- its value where nobody sets it
abbrev pub default_of : Setting → ℕ
default_of (OfLimit limit) = limit_default limit
default_of MinSpareThreads = 4
default_of MaxThreads = 16
default_of Port = 8080

abbrev pub least_of : Setting → ℕ
least_of (OfLimit limit) = limit_least limit
least_of MinSpareThreads = 1
least_of MaxThreads = 1
least_of Port = 0

abbrev pub greatest_of : Setting → ℕ
greatest_of (OfLimit limit) = limit_greatest limit
greatest_of MinSpareThreads = 64
greatest_of MaxThreads = 64
greatest_of Port = 65535

-- it may also be -1, which is no limit
abbrev pub can_be_unlimited : Setting → Bool
can_be_unlimited (OfLimit limit) = can_be_absent limit
can_be_unlimited _ = false

-- the setting may have the value: it is in the range, or it is -1 where that is no limit
abbrev pub can_be : Setting → ℤ → Bool
can_be setting (pos n) = nat_le (least_of setting) n && nat_le n (greatest_of setting)
can_be setting (negsuc n) = can_be_unlimited setting && n == 0

-- each limit has a value that it may have
abbrev pub AreInRange : Limits → Type 0
AreInRange limits = (limit : Limit) → can_be (OfLimit limit) (limit_in limits limit) ≡ true
