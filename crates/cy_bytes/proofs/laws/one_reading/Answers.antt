-- The law `one_reading`, from the lemmas that show it.
use Rattle.std.proofs.Common.{◌≡◌, Ok}
use Rattle.cy_bytes.specs.Quoting.{unquoted}
use Rattle.cy_bytes.proofs.Texts.{spelling_is_read}
use Rattle.cy_bytes.proofs.laws.one_reading.Goals as goal

pub returns : goal.returns
returns c = λ text one other h k.
    let first : unquoted text ≡ Ok one = spelling_is_read text one h in
    let second : unquoted text ≡ Ok other = spelling_is_read text other k in
    cc
