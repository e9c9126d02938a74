-- The law `settings_are_the_table`, from the lemmas that show it.
use Rattle.std.proofs.Common.{refl}
use Rattle.cy_settings.proofs.laws.settings_are_the_table.Goals as goal

pub returns : goal.returns
returns c = refl
