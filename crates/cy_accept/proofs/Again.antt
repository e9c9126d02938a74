-- A share that was drawn and is left again leaves the latch as it was.
use Rattle.std.proofs.Common.{◌≡◌, ℕ, ◌<◌, Bool, true, false, cond, List, length, set, ap, sym, ◌∙◌}
use Rattle.std.proofs.lemmas.List.{set-get_or, set-set}
use Rattle.cy_latch.specs.Numbers.{after_leave, is_out}
use Rattle.cy_latch.proofs.Sets.{is_out-set_same}

pub left_again : (old : List Bool) (n : ℕ) → n < length old → is_out old n ≡ false → after_leave (set old n true) n ≡ old
left_again old n below idle =
    ap (λ (b : Bool). cond b (set (set old n true) n false) (set old n true)) (is_out-set_same old n true below)
    ∙ set-set old n true false
    ∙ ap (λ (b : Bool). set old n b) (sym idle)
    ∙ set-get_or old n false
