-- What a kit is once a slice that it lent is given back.
use Rattle.std.specs.Prelude.{◌≡◌, ⊤}
use Rattle.std.specs.Borrow.{follows_so, MutBor, Fml}
use mathlib.Core.Option.{none}
use Rattle.cy_rings.specs.declared.kit.ConnKit.{ConnKit}
use Rattle.cy_rings.specs.contracts.kit.ConnKit.{the_row}

-- it holds what it held
abbrev pub IsGivenBack : MutBor ConnKit → Fml
IsGivenBack kit = follows_so the_row the_row kit.ghost_name none (λ _ _. ⊤) (λ after. after ≡ kit.now)
