-- The law `example_is_read`, from the lemmas that show it.
use Rattle.std.proofs.Common.{refl}
use Rattle.cy_bytes.specs.Numbers.{decimal_of}
use Rattle.cy_bytes.specs.Quoting.{unquoted}
use Rattle.cy_script.specs.Reading.{script_of}
use Rattle.cy_script.proofs.laws.example_is_read.Goals as goal

pub returns : goal.returns
unfolding script_of decimal_of unquoted
returns c = refl
