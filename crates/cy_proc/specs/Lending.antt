-- What a line is once a slice that it lent is given back.
use Rattle.std.specs.Prelude.{◌≡◌, ⊤}
use Rattle.std.specs.Borrow.{follows_so, MutBor, Fml}
use mathlib.Core.Option.{none}
use Rattle.cy_proc.specs.declared.line.Line.{Line}
use Rattle.cy_proc.specs.contracts.line.Line.{the_row}

-- it is what it was
abbrev pub IsGivenBack : MutBor Line → Fml
IsGivenBack line = follows_so the_row the_row line.ghost_name none (λ _ _. ⊤) (λ after. after ≡ line.now)
