-- Reading a text item by item, as the loop does.
use Rattle.std.proofs.Common.{◌≡◌, ◌≢◌, ℕ, ◌-◌, List, [], ◌∷◌, ◌++◌, length, Some, None, Ok, Err, refl, sym, ap, ◌∙◌, arith, true, false, eqb}
use Rattle.std.proofs.lemmas.List.{append-nil}
use Rattle.std.proofs.lemmas.Bool.{eqb-true}
use Rattle.cy_bytes.specs.Quoting.{item_at, placed, unquoted}
use Rattle.cy_bytes.proofs.Texts.{read_all, with_front, with_front-byte, read_one, read_none}

is_nothing : (rest : List ℕ) → true ≡ eqb (length rest) 0 → rest ≡ []
is_nothing [] h = refl
is_nothing (b ∷ rest) h = let none : length (b ∷ rest) ≡ 0 = eqb-true _ _ (sym h) in absurd (omega arith)

is_something : (rest : List ℕ) → false ≡ eqb (length rest) 0 → rest ≢ []
is_something [] h e = absurd cc
is_something (b ∷ rest) h e = absurd cc

pub goes_on : (inner front rest after : List ℕ) (b : ℕ) → with_front front (read_all rest) ≡ read_all inner → item_at rest ≡ Some (b, after) → with_front (front ++ b ∷ []) (read_all after) ≡ read_all inner
goes_on inner front rest after b so_far item = sym (with_front-byte front b (read_all after)) ∙ ap (with_front front) (sym (read_one rest b after item)) ∙ so_far

pub stops : (inner front rest : List ℕ) → with_front front (read_all rest) ≡ read_all inner → false ≡ eqb (length rest) 0 → item_at rest ≡ None → unquoted inner ≡ Err (length inner - length rest)
unfolding unquoted
stops inner front rest so_far some item = ap (placed inner) (sym so_far ∙ ap (with_front front) (read_none rest (is_something rest some) item))

pub is_done : (inner front rest : List ℕ) → with_front front (read_all rest) ≡ read_all inner → true ≡ eqb (length rest) 0 → unquoted inner ≡ Ok front
unfolding unquoted
is_done inner front rest so_far ended = ap (placed inner) (sym so_far ∙ ap (λ (t : List ℕ). with_front front (read_all t)) (is_nothing rest ended) ∙ ap Ok (append-nil front))
