-- What the loops of `push_settings` keep.
use Rattle.std.proofs.Common.{◌≡◌, ◌++◌, take}
use Rattle.std.specs.List.{flat_map}
use Rattle.cy_config.specs.Texts.{shown}
use Rattle.cyctl.specs.Check.{told_setting}
use Rattle.cyctl.proofs.check.push_settings.Given as goal

abbrev pub invariant-loop-setting : goal.invariant-loop-setting
invariant-loop-setting l = l.out.items ≡ l.initial.out.items ++ flat_map (told_setting (shown l.settings)) (take l.setting-index l.told)
