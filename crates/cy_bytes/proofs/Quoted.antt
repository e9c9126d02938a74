-- The text that is written.
use Rattle.std.proofs.Common.{ℕ, suc, ◌<◌, List, [], ◌∷◌, ◌++◌, refl, ap, arith}
use Rattle.std.specs.Prelude.{All}
use Rattle.cy_bytes.specs.Quoting.{IsSpelling, quoted}
use Rattle.cy_bytes.proofs.Items.{spelling_of_is_item}

-- It spells the bytes.
pub quoted_is_spelling : (bytes : List ℕ) → All (λ b. b < 256) bytes → IsSpelling (quoted bytes) bytes
unfolding quoted
quoted_is_spelling [] small = refl
quoted_is_spelling (b ∷ bytes) small =
    let one = spelling_of_is_item b (small 0 0 (omega arith)) in
    (one.0, quoted bytes, one.1, ap (λ (t : List ℕ). t ++ quoted bytes) one.2, quoted_is_spelling bytes (λ k d h. small (suc k) d (omega arith)))
