-- Laws of settings, in the words of their table.
use Rattle.std.specs.Prelude.{◌≡◌, ◌≢◌, ℕ, ◌+◌, ◌<◌, ◌≤◌, ◌↔◌, pos, negsuc, true, List, [], ◌∷◌, codes, map, All, Any}
use Rattle.cy_map.specs.declared.rule.Rule.{Rule}
use Rattle.cy_settings.specs.declared.limit.Limit.TheVariants.{MaxKeepAliveRequests}
use Rattle.cy_settings.specs.declared.setting.Setting.{Setting}
use Rattle.cy_settings.specs.declared.setting.Setting.TheVariants.{Limit as OfLimit}
use Rattle.cy_settings.specs.Limits.{limit_in, standard}
use Rattle.cy_settings.specs.Rules.{parts_of}
use Rattle.cy_settings.specs.Settings.{AreInRange, can_be, default_of, greatest_of, least_of, name_of, settings}

-- a setting's name, its default, and the least and the greatest value that it may have
abbrev pub row_of : Setting → List ℕ × ℕ × ℕ × ℕ
row_of setting = (name_of setting, default_of setting, least_of setting, greatest_of setting)

-- the settings are these
abbrev pub SettingsAreTheTable : Type 0
SettingsAreTheTable = map row_of settings ≡
    (codes "maxConnections", 256, 1, 8192)
    ∷ (codes "maxHttpHeaderSize", 8192, 256, 8192)
    ∷ (codes "maxHeaderCount", 100, 1, 100)
    ∷ (codes "maxKeepAliveRequests", 100, 1, 2147483647)
    ∷ (codes "connectionTimeout", 20000, 1, 86400000)
    ∷ (codes "asyncTimeout", 30000, 0, 86400000)
    ∷ (codes "maxSwallowSize", 2097152, 0, 2147483647)
    ∷ (codes "maxTrailerSize", 8192, 2, 8192)
    ∷ (codes "minSpareThreads", 4, 1, 64)
    ∷ (codes "maxThreads", 16, 1, 64)
    ∷ (codes "port", 8080, 0, 65535)
    ∷ []

-- a number is a value of a setting exactly where it is in its range
abbrev pub NumbersAreInRange : Type 0
NumbersAreInRange = (setting : Setting) (n : ℕ) → (can_be setting (pos n) ≡ true) ↔ ((least_of setting ≤ n) × (n ≤ greatest_of setting))

-- a number below 0 is one exactly where it is -1 for the requests of one connection
abbrev pub MinusOneIsNoLimit : Type 0
MinusOneIsNoLimit = (setting : Setting) (n : ℕ) → (can_be setting (negsuc n) ≡ true) ↔ ((setting ≡ OfLimit MaxKeepAliveRequests) × (n ≡ 0))

-- without rules there are no components; else each has a number below theirs, and one has the greatest
pub record CountsParts (rules : List Rule) : Type 0 where
  pub none : rules ≡ [] → parts_of rules ≡ 0
  pub below : All (λ rule. rule.part < parts_of rules) rules
  pub greatest : rules ≢ [] → Any (λ rule. rule.part + 1 ≡ parts_of rules) rules
