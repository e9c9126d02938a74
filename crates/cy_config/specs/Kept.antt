-- What holds of all settings.
use Rattle.std.specs.Prelude.{◌≡◌, ℕ, ◌≤◌, pos, true}
use Rattle.cy_settings.specs.declared.setting.Setting.TheVariants.{MinSpareThreads, MaxThreads}
use Rattle.cy_settings.specs.Settings.{can_be}

-- the numbers of threads are in their ranges, and no more are kept than there are at most
pub record AreThreads (core max : ℕ) : Type 0 where
  pub least : can_be MinSpareThreads (pos core) ≡ true
  pub most : can_be MaxThreads (pos max) ≡ true
  pub ordered : core ≤ max
