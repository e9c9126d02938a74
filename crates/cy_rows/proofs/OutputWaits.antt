-- What waits for the socket.
use Rattle.std.proofs.Common.{arith, ◌≡◌, false, take, [], ◌∷◌, length, refl, sym}
use Rattle.std.proofs.lemmas.List.{drop_at, length-append, length-take-le}
use Rattle.cy_model.specs.Folds.{is_broken}
use Rattle.cy_model.specs.Marks.{Trace, sent, broken}
use Rattle.cy_model.specs.Outputs.{took, unsent, writing}
use Rattle.cy_rows.specs.Laws.{OutputIsSentInOrder, SendsFit}

-- what no longer waits is what the socket took
taken_is_past : (T : Trace) → SendsFit T → is_broken T ≡ false → length (writing T).past ≡ took T
taken_is_past [] fits e = refl
taken_is_past ((t, sent n) ∷ T) fits e =
    omega (arith, taken_is_past T fits.1 e, length-append (writing T).past (take n (unsent T)), length-take-le n (unsent T) fits.0)
taken_is_past ((t, broken) ∷ T) fits e = cc
taken_is_past ((t, m) ∷ T) fits e = taken_is_past T fits e

pub output-is-sent-in-order : OutputIsSentInOrder
output-is-sent-in-order T fits = record {
  rest = λ e. sym (drop_at (writing T).past (unsent T) (took T) (taken_is_past T fits e));
  dropped = λ t. refl;
}
