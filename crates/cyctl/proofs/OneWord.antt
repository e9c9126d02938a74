-- A list of one word.
use Rattle.std.proofs.Common.{◌≡◌, ◌↔◌, ℕ, List, [], ◌∷◌, length, map, get_or, String, string_bytes, sym, ap, ◌∙◌, arith, Global}

-- it is the text where its word is
pub one_word : (words : List (String Global)) (word : String Global) (text : List ℕ) → length words ≡ 1 → word ≡ get_or words 0 word → (map string_bytes words ≡ text ∷ []) ↔ (string_bytes word ≡ text)
one_word [] word text one first = absurd (omega (arith, one))
one_word (w ∷ []) word text one first = (λ e. let same : string_bytes w ≡ text = cc in ap string_bytes first ∙ same, λ e. ap (λ (t : List ℕ). t ∷ []) (sym (ap string_bytes first) ∙ e))
one_word (w ∷ v ∷ words) word text one first = absurd (omega (arith, one))
