-- The law `parts_are_counted`, from the lemmas that show it.
use Rattle.cy_settings.proofs.SettingLaws.{counts_parts}
use Rattle.cy_settings.proofs.laws.parts_are_counted.Goals as goal

pub returns : goal.returns
returns c = counts_parts
