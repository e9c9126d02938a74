-- The law `values_are_in_range`, from the lemmas that show it.
use Rattle.cy_settings.proofs.SettingLaws.{defaults_are_in_range, minus_one_is_no_limit, numbers_are_in_range}
use Rattle.cy_settings.proofs.laws.values_are_in_range.Goals as goal

pub returns : goal.returns
returns c = record { numbers = numbers_are_in_range; no_limit = minus_one_is_no_limit; defaults = defaults_are_in_range }
