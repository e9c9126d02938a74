-- The law `settings_are_written`, from the lemmas that show it.
use Rattle.cy_config.proofs.PrintedBack.{printed_back, written_back}
use Rattle.cy_config.proofs.laws.settings_are_written.Goals as goal

pub returns : goal.returns
returns c = record { printed = printed_back; each = written_back }
